-- Unlocks of a process that does not hold the mutex (this project's own).
use Rattle.std.specs.Prelude.{◌≡◌, ℕ, ◌<◌, ◌||◌, Bool, true, false, Option, None, Some, slice_get, IsSome, is_some}
use Rattle.lin_object.specs.declared.op.Op.{Op}
use Rattle.lin_object.specs.declared.op.Op.TheVariants.{Unlock}
use Rattle.lin_object.specs.declared.reply.Reply.{Reply}
use Rattle.lin_object.specs.declared.state.ObjState.{ObjState}
use Rattle.lin_object.specs.declared.state.ObjState.TheVariants.{Mutex}
use Rattle.lin_history.specs.declared.problems.problem.ProblemCall.{ProblemCall}
use Rattle.lin_history.specs.Problems.Problem.{Problem}
use Rattle.lin_ahead.specs.Mutexes.Acquires.{acquired}

module _ (p : Problem ObjState Op Reply) where
  -- The call is an acquire of the process.
  abbrev pub AcquiresFor : ℕ → ℕ → Type 0
  AcquiresFor process a = (x : ProblemCall Op Reply) × (event : ℕ) × (slice_get p.calls a ≡ Some x) × (acquired x.op x.returned ≡ Some event) × (x.process ≡ process)

  -- The call is an unlock of the process.
  abbrev pub UnlocksFor : ℕ → ℕ → Type 0
  UnlocksFor process u = (x : ProblemCall Op Reply) × (slice_get p.calls u ≡ Some x) × (x.op ≡ Unlock) × (x.process ≡ process)

  -- An acquire of the process is one of the first calls, and no unlock of it is one of those behind that.
  abbrev pub HoldsAfter : ℕ → ℕ → Type 0
  HoldsAfter n process = (a : ℕ) × AcquiresFor process a × (a < n) × ((u : ℕ) → UnlocksFor process u → a < u → u < n → ⊥)

  -- The call is an unlock that returned, and its process does not hold the mutex by the calls before it.
  abbrev pub IsStray : ℕ → Type 0
  IsStray u = (x : ProblemCall Op Reply) × (slice_get p.calls u ≡ Some x) × (x.op ≡ Unlock) × IsSome x.returned × (HoldsAfter u x.process → ⊥)

  -- The mutex is free at the start, and some unlock is such a call.
  abbrev pub SomeIsStray : Type 0
  SomeIsStray = (p.start ≡ Mutex None) × ((u : ℕ) × IsStray u)

-- The operation is an unlock.
abbrev pub is_unlock : Op → Bool
is_unlock Unlock = true
is_unlock op = false

-- Whether a process holds the mutex after its call, where it did so before or not.
abbrev pub holds_then : Op → Option (ℕ × Reply) → Bool → Bool
holds_then Unlock returned before = false
holds_then op returned before = is_some (acquired op returned) || before

-- What is noted of a process says that it holds the mutex.
abbrev pub is_held : Option Bool → Bool
is_held None = false
is_held (Some held) = held
