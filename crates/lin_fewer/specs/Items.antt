-- Items that a queue or a stack need not be given (this project's own).
use Rattle.std.specs.Prelude.{◌≡◌, ℕ, ℤ, ◌<◌, Bool, false, Option, List, ◌⊎◌}
use Rattle.std.specs.Option.{unwrap_or}
use Rattle.lin_object.specs.declared.op.Op.{Op}
use Rattle.lin_object.specs.declared.reply.Reply.{Reply}
use Rattle.lin_object.specs.declared.state.ObjState.{ObjState}
use Rattle.lin_history.specs.Problems.Problem.{Problem}
use Rattle.lin_history.specs.Problems.Continuations.{has}
use Rattle.lin_laws.specs.Items.{Took, Popped}

-- The call returned with the item.
abbrev pub ReturnedWith : Problem ObjState Op Reply → ℕ → ℤ → Type 0
ReturnedWith p c v = Took p c v ⊎ Popped p c v

-- No call that is left returned with the item.
abbrev pub NobodyTakes : Problem ObjState Op Reply → List Bool → ℤ → Type 0
NobodyTakes p set v = (c : ℕ) → has set c ≡ false → ReturnedWith p c v → ⊥

-- A number that is noted of an item, or 0.
abbrev pub noted : (ℤ → Option ℕ) → ℤ → ℕ
noted ends v = unwrap_or (ends v) 0

-- The calls below this one that returned with an item are below what is noted of it.
abbrev pub AreEndsTo : Problem ObjState Op Reply → (ℤ → Option ℕ) → ℕ → Type 0
AreEndsTo p ends to = (v : ℤ) (c : ℕ) → c < to → ReturnedWith p c v → c < noted ends v

-- The calls below this one that returned with the item are in the set.
abbrev pub AreTakenTo : Problem ObjState Op Reply → List Bool → ℤ → ℕ → Type 0
AreTakenTo p set v to = (c : ℕ) → c < to → has set c ≡ false → ReturnedWith p c v → ⊥
