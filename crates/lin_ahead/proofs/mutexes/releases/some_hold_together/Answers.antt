use Rattle.std.proofs.Common.{sym, true≢false, arith}
use Rattle.lin_history.specs.Problems.AnyProblem.{any_problem}
use Rattle.lin_ahead.proofs.mutexes.RowLemmas.{none_at_all, none_together}
use Rattle.lin_ahead.proofs.mutexes.releases.some_hold_together.Goals as goal

pub returns : goal.returns
returns c = (
  (λ e. absurd (true≢false (sym e))),
  (λ h. absurd (none_together (any_problem c.args.problem.now) c.args.sections.now c.requires.sections c.requires.order
      (none_at_all (any_problem c.args.problem.now) c.loop-place.place c.args.sections.now (let a = c.loop-place-test.false in omega (arith, a)) c.loop-place.invariant) h)),
)
