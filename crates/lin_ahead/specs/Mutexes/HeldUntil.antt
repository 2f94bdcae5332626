-- Until which call an acquire's process holds a mutex that it took there (this project's own).
use Rattle.std.specs.Prelude.{◌≡◌, ◌⊎◌, ℕ, ◌<◌, ◌≤◌, Bool, true, false, Option, Some, List, length, slice_get, slice_index_or}
use Rattle.lin_object.specs.declared.op.Op.{Op}
use Rattle.lin_object.specs.declared.op.Op.TheVariants.{Lock, TryLock}
use Rattle.lin_object.specs.declared.reply.Reply.{Reply}
use Rattle.lin_object.specs.declared.reply.Reply.TheVariants.{Okay, Flag}
use Rattle.lin_object.specs.declared.state.ObjState.{ObjState}
use Rattle.lin_history.specs.declared.problems.problem.ProblemCall.{ProblemCall}
use Rattle.lin_history.specs.Problems.Problem.{Problem}
use Rattle.lin_ahead.specs.Mutexes.Strays.{UnlocksFor}

-- The call is a lock that answered 'ok', or a try_lock that answered 'yes'.
abbrev pub took : Op → Option (ℕ × Reply) → Bool
took Lock (Some (event, Okay)) = true
took TryLock (Some (event, Flag true)) = true
took op returned = false

-- The number if the answer is yes, else 0.
abbrev pub number_if : Bool → ℕ → ℕ
number_if true n = n
number_if false n = 0

module _ (p : Problem ObjState Op Reply) where
  -- The call took the mutex, for its process.
  abbrev pub TookFor : ℕ → ℕ → Type 0
  TookFor process a = (x : ProblemCall Op Reply) × (slice_get p.calls a ≡ Some x) × (took x.op x.returned ≡ true) × (x.process ≡ process)

  -- The first unlock of the process after the call; where there is none, the number of calls.
  abbrev pub IsNextUnlock : ℕ → ℕ → ℕ → Type 0
  IsNextUnlock process a n = ((u : ℕ) → UnlocksFor p process u → a < u → n ≤ u) × ((n ≡ length p.calls) ⊎ ((a < n) × UnlocksFor p process n))

  -- Of a call that took the mutex the next unlock of its process; of any other call 0.
  abbrev pub IsHeldUntil : ℕ → ℕ → Type 0
  IsHeldUntil a n = ((process : ℕ) × TookFor process a × IsNextUnlock process a n) ⊎ (((process : ℕ) → TookFor process a → ⊥) × (n ≡ 0))

  -- The row has that number of each call.
  abbrev pub AreHeldUntil : List ℕ → Type 0
  AreHeldUntil row = (a : ℕ) → IsHeldUntil a (slice_index_or row a 0)
