use Rattle.std.proofs.Common.{sym, ◌∙◌}
use Rattle.lin_object.specs.StepLemmas.{state_same}
use Rattle.lin_history.specs.Problems.AnyProblem.{any_problem}
use Rattle.lin_lost.proofs.WalkLemmas.{legal_one}
use Rattle.lin_lost.proofs.walk.is_legal.Goals as goal

pub loop-call-init : goal.loop-call-init
loop-call-init c = sym (state_same _ _ c.in_ok-state.ensures.copy ∙ c.start.ensures)

pub loop-call-preserved : goal.loop-call-preserved
loop-call-preserved c = legal_one (any_problem c.args.problem.now) c.args.calls.now c.loop-call.call-index c.args.problem.now.start c.loop-call.state c.makes_step.new.state c.loop-call-test.true c.loop-call.invariant (c.in_ok-makes_step.ensures c.if-not-branch.false)
