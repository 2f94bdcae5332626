use Rattle.std.proofs.Common.{ap, subst, sym, ◌≤◌, ◌∙◌}
use Rattle.lin_object.specs.StepLemmas.{state_same}
use Rattle.lin_history.specs.declared.limits.TheConstants.{MAX_CALLS_ON_OBJECT}
use Rattle.lin_history.specs.Problems.AnyProblem.{any_problem}
use Rattle.lin_parts.specs.Parts.{ArePart}
use Rattle.lin_parts.proofs.SomeCallLemmas.{some_few, some_part, some_timed}
use Rattle.lin_parts.proofs.part.part_of.Goals as goal

pub with_calls-requires-clause-timed : goal.with_calls-requires-clause-timed
with_calls-requires-clause-timed c = some_timed (any_problem c.args.problem.now) c.args.kept.now c.requires c.in_ok-calls.calls.items c.in_ok-calls.ensures.count c.in_ok-calls.ensures.same c.calls-whole.ensures.timed

pub with_calls-requires-clause-few : goal.with_calls-requires-clause-few
with_calls-requires-clause-few c = subst (λ n. n ≤ MAX_CALLS_ON_OBJECT) (sym c.in_ok-calls.ensures.count) (some_few (any_problem c.args.problem.now) c.args.kept.now c.requires MAX_CALLS_ON_OBJECT c.calls-whole.ensures.few)

pub returns-clause-start : goal.returns-clause-start
returns-clause-start c = ap (λ p. p.start) c.with_calls.ensures ∙ (state_same _ _ c.in_ok-start.ensures.copy ∙ c.start.ensures)

pub returns-clause-part : goal.returns-clause-part
returns-clause-part c =
    subst (ArePart (any_problem c.args.problem.now) c.args.kept.now) (sym (ap (λ p. p.calls) c.with_calls.ensures))
    (some_part (any_problem c.args.problem.now) c.args.kept.now c.requires c.in_ok-calls.calls.items c.in_ok-calls.ensures.count c.in_ok-calls.ensures.same)
