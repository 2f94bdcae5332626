use Rattle.std.proofs.Common.{refl, subst}
use Rattle.lin_history.specs.Problems.AnyProblem.{any_problem}
use Rattle.lincheck.specs.ObjectAnswer.{IsAnswered}
use Rattle.lincheck.proofs.JudgeLemmas.{breaks}
use Rattle.lincheck.proofs.turns.by_turns.Goals as goal

pub returns-in-Break-clause-answer : goal.returns-in-Break-clause-answer
returns-in-Break-clause-answer g c b e =
    subst (IsAnswered (any_problem c.args.problem.now) c.args.question c.args.setting.now.bounds) (breaks e)
    (c.in-Break.ensures (any_problem c.args.problem.now) c.args.question c.args.setting.now.bounds c.in_ok-alone.ensures.told c.loop.invariant.0.refuted c.in-Break.answer refl)
