-- When what is known ahead of a mutex's problem is right, and that it is all that its acquires tell (this project's own).
use Rattle.std.specs.Prelude.{◌↔◌, ◌⊎◌, List, IsTrue, ℕ}
use Rattle.lin_object.specs.declared.op.Op.{Op}
use Rattle.lin_object.specs.declared.reply.Reply.{Reply}
use Rattle.lin_object.specs.declared.state.ObjState.{ObjState}
use Rattle.lin_history.specs.Problems.Problem.{Problem}
use Rattle.lin_history.specs.Problems.Linearizations.{IsLinearization}
use Rattle.lin_ahead.specs.declared.mutexes.rows.MutexAhead.{MutexAhead}
use Rattle.lin_laws.specs.InTurn.{AreInTurn}
use Rattle.lin_ahead.specs.Mutexes.Sections.{AreSections, AreInOrder, SomeHoldTogether}
use Rattle.lin_ahead.specs.Mutexes.Strays.{SomeIsStray}

-- The calls of each process come one after another, and there is no linearization where that is told.
pub record IsRightOfMutex (p : Problem ObjState Op Reply) (ahead : MutexAhead) : Type 0 where
  pub turn : AreInTurn p
  pub none : IsTrue ahead.in_vain → (l : List ℕ) → IsLinearization p l → ⊥

-- It has all sections, in the order of their acquires' returns, and it is in vain exactly where some two exclude each other, or some
-- unlock is one of a process that does not hold the mutex.
pub record IsToldOfMutex (p : Problem ObjState Op Reply) (ahead : MutexAhead) : Type 0 where
  pub sections : AreSections p ahead.sections.items
  pub order : AreInOrder ahead.sections.items
  pub in_vain : IsTrue ahead.in_vain ↔ (SomeHoldTogether p ⊎ SomeIsStray p)
