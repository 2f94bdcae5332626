use Rattle.std.proofs.Common.{subst}
use Rattle.lin_history.specs.Problems.AnyProblem.{any_problem}
use Rattle.lin_workers.specs.Verdict.{IsNumberStored}
use Rattle.lincheck.specs.ObjectAnswer.{IsAnswered}
use Rattle.lincheck.proofs.JudgeLemmas.{breaks}
use Rattle.lincheck.proofs.turns.behind_full_search.Goals as goal

pub returns-in-Some-2-clause-answer : goal.returns-in-Some-2-clause-answer
returns-in-Some-2-clause-answer g c b e =
    subst (IsAnswered (any_problem c.args.problem.now) c.args.question c.args.setting.now.bounds) (breaks e)
    (rw c.in-Some-2.is at c.in_ok-answer.ensures.answer, subst (λ q. IsNumberStored (any_problem q) c.in-Some.stored) c.requires.memo c.in-Some.ensures.stored)
