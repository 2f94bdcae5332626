use Rattle.std.proofs.Common.{ℕ, ◌+◌, inl, inr, subst, sym}
use Rattle.lin_history.specs.Problems.Problem.{problem_of}
use Rattle.lin_history.specs.Problems.Precedence.{Before}
use Rattle.lin_parts.specs.ListLemmas.{last_or}
use Rattle.lin_prefixes.proofs.by_prefixes.is_within_window.Goals as goal

pub loop-c-preserved : goal.loop-c-preserved
loop-c-preserved g c = λ a h. elim (last_or a c.loop-c.c h) [
  | inl less ↦ c.loop-c.invariant a less
  | inr same ↦ subst (λ (x : ℕ). Before (problem_of g.O.SeqObject.after g.O.State.PartialEq.eq g.O.Reply.PartialEq.eq c.args.problem.now) x (c.args.call + 1) → Before (problem_of g.O.SeqObject.after g.O.State.PartialEq.eq g.O.Reply.PartialEq.eq c.args.problem.now) x c.args.call) (sym same) (c.returns_between.ensures c.if-returns_between.false)
]
