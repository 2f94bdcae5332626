use Rattle.lin_history.specs.Problems.AnyProblem.{any_problem}
use Rattle.lincheck.proofs.full_search.by_workers.Goals as goal

pub returns : goal.returns
returns g c = λ question. (c.answer_by.ensures.answer (any_problem c.args.memo.now.problem) question c.args.setting.now.bounds c.in_ok-verdict.ensures.verdict c.in_ok-verdict.ensures.time c.requires, c.in_ok-verdict.ensures.stored)
