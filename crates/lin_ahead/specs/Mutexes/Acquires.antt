-- The calls that took a mutex for sure, which other calls take it too early, and the unlocks of a process (this project's own).
use Rattle.std.specs.Prelude.{◌≡◌, ℕ, ◌<◌, ◌≤◌, Bool, true, false, Option, Some, None, List, slice_get}
use Rattle.lin_object.specs.declared.op.Op.{Op}
use Rattle.lin_object.specs.declared.op.Op.TheVariants.{Lock, Unlock, TryLock}
use Rattle.lin_object.specs.declared.reply.Reply.{Reply}
use Rattle.lin_object.specs.declared.reply.Reply.TheVariants.{Flag}
use Rattle.lin_object.specs.declared.state.ObjState.{ObjState}
use Rattle.lin_history.specs.declared.problems.problem.ProblemCall.{ProblemCall}
use Rattle.lin_history.specs.Problems.Problem.{Problem}
use Rattle.lin_history.specs.Problems.Continuations.{has}

-- When an acquire returned: a lock that returned, or a try_lock that answered 'yes'.
abbrev pub acquired : Op → Option (ℕ × Reply) → Option ℕ
acquired Lock (Some (event, reply)) = Some event
acquired TryLock (Some (event, Flag true)) = Some event
acquired op returned = None

-- The call is an acquire, and returned at this event.
abbrev pub IsAcquire : Problem ObjState Op Reply → ℕ → ℕ → Type 0
IsAcquire p a event = (x : ProblemCall Op Reply) × (slice_get p.calls a ≡ Some x) × (acquired x.op x.returned ≡ Some event)

-- The call takes the mutex where it is free.
abbrev pub takes_if_free : Op → Bool
takes_if_free Lock = true
takes_if_free TryLock = true
takes_if_free op = false

-- The call has not returned before the event.
abbrev pub ReturnsFrom : ℕ → Option (ℕ × Reply) → Type 0
ReturnsFrom event None = Unit {0}
ReturnsFrom event (Some r) = event ≤ r.0

-- The acquire is not in the set, and a call that returned so, or is pending, has not returned before it.
abbrev pub IsLeftFrom : Problem ObjState Op Reply → List Bool → ℕ → Option (ℕ × Reply) → Type 0
IsLeftFrom p set a returned = (event : ℕ) × IsAcquire p a event × ReturnsFrom event returned × (has set a ≡ false)

-- The process called an unlock after the one event, and not after the other.
abbrev pub UnlocksBetween : Problem ObjState Op Reply → ℕ → ℕ → ℕ → Type 0
UnlocksBetween p process from to = (w : ℕ) × (x : ProblemCall Op Reply) × (slice_get p.calls w ≡ Some x) × (x.op ≡ Unlock) × (x.process ≡ process) × (from < x.called) × (x.called ≤ to)

-- The process called an unlock that is a call from the one number to the other.
abbrev pub UnlocksAmong : Problem ObjState Op Reply → ℕ → ℕ → ℕ → Type 0
UnlocksAmong p process first end = (w : ℕ) × (x : ProblemCall Op Reply) × (slice_get p.calls w ≡ Some x) × (x.op ≡ Unlock) × (x.process ≡ process) × (first ≤ w) × (w < end)
