use Rattle.lin_history.specs.Problems.AnyProblem.{any_problem}
use Rattle.lin_lost.proofs.WalkLemmas.{all_in_time}
use Rattle.lin_lost.proofs.walk.keeps_time.Goals as goal

pub returns : goal.returns
returns c = λ yes. all_in_time (any_problem c.args.problem.now) c.args.calls.now c.loop-call.call-index c.loop-call.greatest c.loop-call-test.false c.loop-call.invariant
