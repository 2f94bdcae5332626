use Rattle.std.proofs.Common.{List, ℕ, sym, subst}
use Rattle.std.proofs.lemmas.List.Elements.{All-push, All-same}
use Rattle.lin_history.specs.Problems.Problem.{problem_of}
use Rattle.lin_prefixes.specs.Prefixes.{IsConflict}
use Rattle.lin_prefixes.proofs.conflicts.add_known.Goals as goal

pub returns : goal.returns
returns g c = All-same (IsConflict (problem_of g.O.SeqObject.after g.O.State.PartialEq.eq g.O.Reply.PartialEq.eq c.args.problem.now) c.args.call) _ _ c.in_ok-push.ensures.items (All-push (IsConflict (problem_of g.O.SeqObject.after g.O.State.PartialEq.eq g.O.Reply.PartialEq.eq c.args.problem.now) c.args.call) _ _ c.requires.conflicts
    (subst (λ (l : List ℕ). IsConflict (problem_of g.O.SeqObject.after g.O.State.PartialEq.eq g.O.Reply.PartialEq.eq c.args.problem.now) c.args.call l) (sym c.in_ok-conflict.ensures) (record {
      completed = c.are_completed_up_to.ensures c.if-not-are_completed_up_to.false;
      none = rw c.in-NoRun.is at c.in_ok-runs_with.ensures;
    })))
