use Rattle.std.proofs.Common.{ℕ, Bool, List, [], sym, ◌∙◌, subst, append-nil, arith}
use Rattle.lin_history.specs.Problems.Problem.{problem_of}
use Rattle.lin_history.specs.Problems.Lists.{IsLeast}
use Rattle.lin_history.specs.Problems.Continuations.{IsCompletion}
use Rattle.lin_fewer.specs.Fronts.{HasCompletedBelow}
use Rattle.lin_fewer.proofs.NodeLemmas.{incomplete}
use Rattle.lin_fewer.proofs.SearchLemmas.{below_still}
use Rattle.lin_fewer.proofs.LeastLemmas.{minimal_begins, least_behind, least_end, least_step}
use Rattle.lin_fewer.proofs.least.least_order.Goals as goal

pub returns-in_default-clause-least : goal.returns-in_default-clause-least
returns-in_default-clause-least g c = subst (λ (l : List ℕ). IsLeast (IsCompletion (problem_of g.O.SeqObject.after g.O.State.PartialEq.eq g.O.Reply.PartialEq.eq c.args.search.now) c.args.root.lifted c.args.root.state) l) (append-nil c.calls.calls.items) (c.calls.invariant.rest [] (least_end (problem_of g.O.SeqObject.after g.O.State.PartialEq.eq g.O.Reply.PartialEq.eq c.args.search.now) c.calls.config.lifted c.calls.config.state (rw (c.problem-problem.ensures, c.lifted.ensures) at (rw c.in_default.is at c.first_left.ensures.none))))

pub child_of-requires-clause-minimal : goal.child_of-requires-clause-minimal
child_of-requires-clause-minimal g c = rw c.problem-problem.ensures (minimal_begins (problem_of g.O.SeqObject.after g.O.State.PartialEq.eq g.O.Reply.PartialEq.eq c.args.search.now) c.calls.config c.in-Some-2.call c.calls.invariant.reachable.flags (rw c.calls.invariant.search at (rw c.in-Some-2.is at c.in_ok-call.ensures.least)))

pub with_completed-completed-requires : goal.with_completed-completed-requires
with_completed-completed-requires g c = rw c.problem-problem.ensures (minimal_begins (problem_of g.O.SeqObject.after g.O.State.PartialEq.eq g.O.Reply.PartialEq.eq c.args.search.now) c.calls.config c.in-Some-2.call c.calls.invariant.reachable.flags (rw c.calls.invariant.search at (rw c.in-Some-2.is at c.in_ok-call.ensures.least))).within

pub calls-preserved : goal.calls-preserved
calls-preserved g c =
    let first = (rw (c.problem-problem.ensures, c.lifted.ensures) at (rw c.in-Some.is at c.first_left.ensures.some)) in
    let child = (rw c.problem-problem.ensures at (rw c.in-Some-3.is at c.in_ok-child.ensures.some)) in
    let lowest = (rw c.calls.invariant.search at (rw c.in-Some-2.is at c.in_ok-call.ensures.least)) in
    record {
      search = c.in_ok-call.ensures.same ∙ c.calls.invariant.search;
      stop = g.met.S.Stop.chained _ _ _ c.calls.invariant.stop c.in_ok-call.ensures.stop;
      reachable = child.reachable;
      below = subst (λ (a : List Bool). HasCompletedBelow (problem_of g.O.SeqObject.after g.O.State.PartialEq.eq g.O.Reply.PartialEq.eq c.args.search.now) a c.in-Some.first) (sym child.lifted) (below_still (problem_of g.O.SeqObject.after g.O.State.PartialEq.eq g.O.Reply.PartialEq.eq c.args.search.now) c.calls.config.lifted c.in-Some.first c.in-Some-2.call (let f = c.calls.invariant.reachable.flags in let w = (minimal_begins (problem_of g.O.SeqObject.after g.O.State.PartialEq.eq g.O.Reply.PartialEq.eq c.args.search.now) c.calls.config c.in-Some-2.call c.calls.invariant.reachable.flags lowest).within in omega (arith, f, w)) first.below);
      rest = λ m k. least_behind (IsLeast (IsCompletion (problem_of g.O.SeqObject.after g.O.State.PartialEq.eq g.O.Reply.PartialEq.eq c.args.search.now) c.args.root.lifted c.args.root.state)) c.calls.calls.items _ c.in-Some-2.call c.in_ok-push.ensures.items m (c.calls.invariant.rest _ (least_step (problem_of g.O.SeqObject.after g.O.State.PartialEq.eq g.O.Reply.PartialEq.eq c.args.search.now) c.calls.config c.in-Some-2.call c.calls.invariant.reachable.flags (incomplete (problem_of g.O.SeqObject.after g.O.State.PartialEq.eq g.O.Reply.PartialEq.eq c.args.search.now) c.calls.config.lifted c.in-Some.first first) c.in-Some-3.child child lowest m k));
    }

pub returns-in_err-push-clause-stop : goal.returns-in_err-push-clause-stop
returns-in_err-push-clause-stop g c = g.met.S.Stop.chained _ _ _ c.calls.invariant.stop c.in_ok-call.ensures.stop
