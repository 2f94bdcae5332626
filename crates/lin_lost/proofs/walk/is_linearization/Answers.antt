use Rattle.lin_history.specs.Problems.AnyProblem.{any_problem}
use Rattle.lin_lost.proofs.WalkLemmas.{are_linearization}
use Rattle.lin_lost.proofs.walk.is_linearization.Goals as goal

pub returns : goal.returns
returns c = λ yes. are_linearization (any_problem c.args.problem.now) c.args.calls.now c.in-Some.flags.items (rw c.in-Some.is at c.in_ok-flags.ensures.distinct) (rw c.in-Some.is at c.in_ok-flags.ensures.set) (rw c.as_slice.ensures.value at (c.has_completed.ensures c.if-not-has_completed.false)) (c.keeps_time.ensures c.if-not-keeps_time.false) (c.in_ok-is_legal.ensures yes)
