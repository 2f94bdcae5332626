-- Sections of a mutex: each begins with an acquire and lasts until its process gives the mutex back (this project's own).
use Rattle.std.specs.Prelude.{◌≡◌, ◌≢◌, ℕ, ◌≤◌, Some, List, slice_get}
use Rattle.lin_object.specs.declared.op.Op.{Op}
use Rattle.lin_object.specs.declared.reply.Reply.{Reply}
use Rattle.lin_object.specs.declared.state.ObjState.{ObjState}
use Rattle.lin_history.specs.declared.problems.problem.ProblemCall.{ProblemCall}
use Rattle.lin_history.specs.Problems.Problem.{Problem}
use Rattle.lin_ahead.specs.declared.mutexes.sections.Section.{Section}
use Rattle.lin_ahead.specs.Mutexes.Acquires.{acquired, IsAcquire, UnlocksBetween}

module _ (p : Problem ObjState Op Reply) where
  -- The section of an acquire: its process, and the event at which it returned.
  abbrev pub IsSection : Section → Type 0
  IsSection s = (x : ProblemCall Op Reply) × (slice_get p.calls s.acquire ≡ Some x) × (acquired x.op x.returned ≡ Some s.from) × (x.process ≡ s.process)

  -- The list has the sections of all acquires, and nothing else.
  pub record AreSections (sections : List Section) : Type 0 where
    pub each : (i : ℕ) (s : Section) → slice_get sections i ≡ Some s → IsSection s
    pub every : (a event : ℕ) → IsAcquire p a event → (i : ℕ) × (s : Section) × (slice_get sections i ≡ Some s) × (s.acquire ≡ a)

  -- The first of two other acquires returned no later than the second, and its process called no unlock between their returns.
  abbrev pub ExcludeEachOther : Section → Section → Type 0
  ExcludeEachOther s t = (s.acquire ≢ t.acquire) × (s.from ≤ t.from) × (UnlocksBetween p s.process s.from t.from → ⊥)

  -- Some two do: both would hold the mutex at one moment.
  abbrev pub SomeHoldTogether : Type 0
  SomeHoldTogether = (s t : Section) × IsSection s × IsSection t × ExcludeEachOther s t

-- They are in the order of their acquires' returns.
abbrev pub AreInOrder : List Section → Type 0
AreInOrder sections = (i j : ℕ) (s t : Section) → i ≤ j → slice_get sections i ≡ Some s → slice_get sections j ≡ Some t → s.from ≤ t.from
