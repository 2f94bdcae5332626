use Rattle.std.specs.Prelude.{IfOk}
use Rattle.std.proofs.Common.{ap, subst}
use Rattle.lin_history.specs.Problems.AnyProblem.{any_problem}
use Rattle.lincheck.specs.ObjectAnswer.{IsAnswered}
use Rattle.lincheck.proofs.turns.by_searches.Goals as goal

pub returns-then-wants_workers-clause-answer : goal.returns-then-wants_workers-clause-answer
returns-then-wants_workers-clause-answer g c =
    subst (λ p. IfOk c.by_workers.result (IsAnswered (any_problem p) c.args.question c.args.setting.now.bounds)) (ap (λ m. m.problem) c.new-memo.ensures) (c.by_workers.ensures c.args.question)
