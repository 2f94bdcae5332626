use Rattle.std.proofs.Common.{◌∙◌, sym}
use Rattle.lin_object.specs.StepLemmas.{state_same}
use Rattle.lin_history.specs.Problems.AnyProblem.{any_problem}
use Rattle.lin_explain.proofs.StateLemmas.{way_start, way_within, way_goes_on, way_next, way_end}
use Rattle.lin_explain.proofs.explanation.state_after.Goals as goal

pub loop-number-init : goal.loop-number-init
loop-number-init c =
    way_start (any_problem c.args.problem.now) c.args.problem.now.start c.in_ok-state.state c.args.run.now (state_same _ _ c.in_ok-state.ensures.copy ∙ c.start.ensures) c.requires

pub call-call-requires : goal.call-call-requires
call-call-requires c =
    way_within (any_problem c.args.problem.now) c.args.problem.now.start c.args.run.now c.loop-number.state c.loop-number.number-index c.loop-number-test.true c.loop-number.invariant

pub unreachable-requires : goal.unreachable-requires
unreachable-requires c =
    way_goes_on (any_problem c.args.problem.now) c.args.problem.now.start c.args.run.now c.loop-number.state c.loop-number.number-index c.call-call.result.now c.loop-number-test.true c.loop-number.invariant c.call-call.ensures (sym c.in_ok-next.ensures.answer ∙ c.in_default.is)

pub loop-number-preserved : goal.loop-number-preserved
loop-number-preserved c =
    way_next (any_problem c.args.problem.now) c.args.problem.now.start c.args.run.now c.loop-number.state c.in-Some.next c.in-Some.field-0-1 c.loop-number.number-index c.call-call.result.now c.loop-number-test.true c.call-call.ensures (sym c.in_ok-next.ensures.answer ∙ c.in-Some.is) c.loop-number.invariant

pub returns : goal.returns
returns c =
    way_end (any_problem c.args.problem.now) c.args.problem.now.start c.args.run.now c.loop-number.state c.loop-number.number-index c.loop-number-test.false c.loop-number.invariant
