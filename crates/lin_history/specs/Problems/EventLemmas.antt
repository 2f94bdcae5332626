-- The call and return events of a problem, told apart.
use Rattle.std.proofs.Common.{◌≡◌, ℕ, ap}
use Rattle.lin_history.specs.declared.problems.timeline.ProblemEvent.{ProblemEvent}
use Rattle.lin_history.specs.declared.problems.timeline.ProblemEvent.TheVariants.{Call, Return}

-- The call of an event.
abbrev pub call_of : ProblemEvent → ℕ
call_of (Call c) = c
call_of (Return c) = c

pub call_or_return : (c d : ℕ) → Call c ≡ Return d → ⊥
call_or_return c d e = cc

pub same_call : (c d : ℕ) → Call c ≡ Call d → c ≡ d
same_call c d e = ap call_of e

pub same_return : (c d : ℕ) → Return c ≡ Return d → c ≡ d
same_return c d e = ap call_of e
