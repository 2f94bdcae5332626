use Rattle.std.proofs.Common.{subst, ℕ}
use Rattle.lin_history.specs.Problems.AnyProblem.{any_problem}
use Rattle.lin_ahead.specs.Mutexes.Acquires.{IsAcquire}
use Rattle.lin_ahead.proofs.mutexes.rules.is_left_from.Goals as goal

-- src/mutexes/mutex_rules.rt:56:1
pub returns : goal.returns
returns c = λ yes. (let s = c.in-Some.ensures.some in (c.in-Some.section.from, subst (λ (a : ℕ). IsAcquire (any_problem c.args.problem.now) a c.in-Some.section.from) s.1 (s.0.0, s.0.1, s.0.2), c.returns_from.ensures yes, c.is_left.ensures c.if-not-is_left.false))
