use Rattle.std.proofs.Common.{ap, subst, sym, ◌∙◌, arith}
use Rattle.lin_object.specs.StepLemmas.{state_same}
use Rattle.lin_history.specs.Problems.AnyProblem.{any_problem}
use Rattle.lin_prefixes.specs.Questions.{IsLoosePrefix}
use Rattle.lin_prefixes.proofs.QuestionLemmas.{loose_timed}
use Rattle.lin_prefixes.proofs.question.loosened.Goals as goal

pub with_calls-requires-clause-timed : goal.with_calls-requires-clause-timed
with_calls-requires-clause-timed c = loose_timed (any_problem c.args.problem.now) c.args.question.call c.args.question.kept.now c.args.question.takers.now c.in_ok-calls.calls.items c.in_ok-calls.ensures c.requires.last c.calls-whole.ensures.timed

pub with_calls-requires-clause-few : goal.with_calls-requires-clause-few
with_calls-requires-clause-few c = (let n = c.in_ok-calls.ensures.count in let less = c.requires.last in let few = c.calls-whole.ensures.few in omega (arith, n, less, few))

pub returns-clause-start : goal.returns-clause-start
returns-clause-start c = ap (λ p. p.start) c.with_calls.ensures ∙ (state_same _ _ c.in_ok-start.ensures.copy ∙ c.start.ensures)

pub returns-clause-loose : goal.returns-clause-loose
returns-clause-loose c = subst (IsLoosePrefix (any_problem c.args.problem.now) c.args.question.call c.args.question.kept.now c.args.question.takers.now) (sym (ap (λ p. p.calls) c.with_calls.ensures)) c.in_ok-calls.ensures
