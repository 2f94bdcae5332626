use Rattle.lin_history.specs.Problems.AnyProblem.{any_problem}
use Rattle.lin_lost.proofs.WalkLemmas.{AreInTime}
use Rattle.lin_lost.proofs.walk.keeps_time.Given as goal

abbrev pub invariant-loop-call : goal.invariant-loop-call
invariant-loop-call l = AreInTime (any_problem l.problem) l.calls l.call-index l.greatest
