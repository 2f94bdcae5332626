use Rattle.std.proofs.Common.{ℕ, arith}
use Rattle.lin_history.specs.Problems.Precedence.{IsCompleted}
use Rattle.lin_history.specs.Problems.AnyProblem.{any_problem}
use Rattle.lin_decide.proofs.keys.PlaceLemmas.{held_more}
use Rattle.lin_decide.proofs.keys.merge.end_of_completed.Goals as goal

pub loop-end-preserved : goal.loop-end-preserved
loop-end-preserved c = record {
  within = (let a = c.loop-end.invariant.within in omega (arith, a));
  behind = held_more (λ (d : ℕ). IsCompleted (any_problem c.args.problem.now) d → ⊥) c.args.calls.now c.loop-end.end (c.ends_pending.ensures.some c.loop-end-test.true) c.loop-end.invariant.within (c.ends_pending.ensures.yes c.loop-end-test.true) c.loop-end.invariant.behind;
}
