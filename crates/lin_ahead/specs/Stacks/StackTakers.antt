-- Configurations of a stack that leave too few pops for what must be taken off it (this project's own).
use Rattle.std.specs.Prelude.{◌≡◌, ◌≢◌, ℕ, ℤ, Bool, true, false, List, ◌∷◌, ◌++◌, ◌⊎◌}
use Rattle.lin_object.specs.declared.op.Op.{Op}
use Rattle.lin_object.specs.declared.reply.Reply.{Reply}
use Rattle.lin_object.specs.declared.state.ObjState.{ObjState}
use Rattle.lin_history.specs.Problems.Problem.{Problem}
use Rattle.lin_ahead.specs.Items.Late.{ReturnsOutside}
use Rattle.lin_ahead.specs.Queues.Queue.{Item, FoundEmpty}
use Rattle.lin_laws.specs.Items.{Puts, Took}
use Rattle.lin_ahead.specs.Items.Takers.{queue_of, is_left, AreTooFew}
use Rattle.lin_ahead.specs.Stacks.ToldOfStack.{exchanged_calls}

-- These lie above the item, which is there once.
abbrev pub LieAbove : List ℤ → ℤ → List ℤ → Type 0
LieAbove items w above = (below : List ℤ) × (items ≡ above ++ w ∷ below) × (Item w above → ⊥) × (Item w below → ⊥)

module _ (p : Problem ObjState Op Reply) (set : List Bool) (c : ℕ) where
  -- Call z returned with the item, which no call that is left puts in.
  abbrev pub TookLifted : ℕ → ℤ → Type 0
  TookLifted z w = Took p z w × ((d : ℕ) → Puts p d w → is_left set c d ≡ false)

  -- Call z finds these of the items on the stack gone: all, where it found none; or those that lie above what it returned with.
  abbrev pub FindsGoneAbove : List ℤ → ℕ → List ℤ → Type 0
  FindsGoneAbove items z gone = (FoundEmpty p z × (gone ≡ items)) ⊎ ((w : ℤ) × TookLifted z w × LieAbove items w gone)

  -- Call y comes no later than call z, which finds these of the items gone: it is z, or it is left and returned with one of them,
  -- which lies on the stack once, and which no call that is left puts in.
  abbrev pub StandsBy : List ℤ → List ℤ → ℕ → ℕ → Type 0
  StandsBy items gone z y = (y ≡ z) ⊎ ((is_left set c y ≡ true) × ((u : ℤ) × TookLifted y u × Item u gone × ((above : List ℤ) × LieAbove items u above)))

-- The problem of the calls of a stack, read as those on a queue.
abbrev pub on_queue : Problem ObjState Op Reply → Problem ObjState Op Reply
on_queue p = queue_of (exchanged_calls p.calls)

-- With call c added to the set, and these items on the stack then, more items must be taken by pops that are pending than there
-- are such pops: a call that is left finds them gone, or they go before one that comes no later, and fewer were called by its return.
abbrev pub LacksPops : Problem ObjState Op Reply → List Bool → ℕ → List ℤ → Type 0
LacksPops p set c items = (gone : List ℤ) × (y z m : ℕ) × ReturnsOutside p set z m × (z ≢ c) × FindsGoneAbove (on_queue p) set c items z gone × StandsBy (on_queue p) set c items gone z y × AreTooFew (on_queue p) set c gone y m
