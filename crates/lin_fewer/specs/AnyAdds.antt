-- Orders of the completed calls of a counter, whatever its pending calls add (this project's own).
use Rattle.std.specs.Prelude.{◌≡◌, ℕ, ◌+◌, ◌≤◌, ℤ, Bool, true, false, Option, Some, List, [], ◌∷◌, replicate, length, slice_get, IsSomeAnd}
use Rattle.lin_object.specs.declared.op.Op.{Op}
use Rattle.lin_object.specs.declared.reply.Reply.{Reply}
use Rattle.lin_object.specs.declared.state.ObjState.{ObjState}
use Rattle.lin_object.specs.declared.state.ObjState.TheVariants.{Counter}
use Rattle.lin_history.specs.Problems.Problem.{Problem}
use Rattle.lin_history.specs.Problems.LegalLists.{next}
use Rattle.lin_history.specs.Problems.Precedence.{IsCompleted}
use Rattle.lin_search.specs.CallSet.{with_call}
use Rattle.lin_search.specs.NextCall.{IsNext, HasEveryCompleted}
use Rattle.lin_fewer.specs.declared.any_adds.Beginning.{Beginning}
use Rattle.lin_fewer.specs.Adds.{part_in, part_of_call}
use Rattle.lin_fewer.specs.Fronts.{HasCompletedBelow}

-- A counter that started with the first number and holds the second has grown by so much or more.
abbrev pub HasGrown : ℤ → ℤ → ℕ → Type 0
HasGrown start number grown = part_in true start + part_in false number + grown ≤ part_in true number + part_in false start

-- No call takes anything off.
abbrev pub NoneTakesOff : Problem ObjState Op Reply → Type 0
NoneTakesOff p = (c : ℕ) → part_of_call false (slice_get p.calls c) ≡ 0

-- Where a counter that has grown by so much takes the call's step, it has grown by this much then, if anything is told.
abbrev pub GrowsTo : Problem ObjState Op Reply → ℤ → ℕ → ℕ → Option ℕ → Type 0
GrowsTo p start c grown told = (number : ℤ) (m : ObjState) → HasGrown start number grown → next p (Counter number) c ≡ Some m → (k : ℤ) × (m ≡ Counter k) × IsSomeAnd told (HasGrown start k)

-- It has a flag for each call, and the completed ones below its first.
abbrev pub IsBeginning : Problem ObjState Op Reply → Beginning → Type 0
IsBeginning p b = (length b.lifted ≡ length p.calls) × HasCompletedBelow p b.lifted b.first

-- Each of them is such.
abbrev pub AreBeginnings : Problem ObjState Op Reply → List Beginning → Type 0
AreBeginnings p layer = (i : ℕ) (b : Beginning) → slice_get layer i ≡ Some b → IsBeginning p b

-- One of them has this set, and the counter has grown by no more.
abbrev pub HasNoMore : List Beginning → List Bool → ℕ → Type 0
HasNoMore layer set grown = (i : ℕ) × (b : Beginning) × (slice_get layer i ≡ Some b) × (b.lifted ≡ set) × (b.grown ≤ grown)

-- What the first has for a set, the second has too.
abbrev pub HasAsMuch : List Beginning → List Beginning → Type 0
HasAsMuch before after = (set : List Bool) (grown : ℕ) → HasNoMore before set grown → HasNoMore after set grown

-- Where the call is completed and follows the beginning, the layer has what that leads to.
abbrev pub IsTaken : Problem ObjState Op Reply → ℤ → Beginning → List Beginning → ℕ → Type 0
IsTaken p start b layer c = (number : ℤ) (m : ObjState) → IsCompleted p c → HasGrown start number b.grown → IsNext p b.lifted (Counter number) c m → (k : ℤ) × (m ≡ Counter k) × ((g : ℕ) × HasGrown start k g × HasNoMore layer (with_call b.lifted c) g)

-- No beginning of the first layer has every completed call, and the second has what calls lead to from them.
abbrev pub LeadsTo : Problem ObjState Op Reply → ℤ → List Beginning → List Beginning → Type 0
LeadsTo p start layer later = (i : ℕ) (b : Beginning) → slice_get layer i ≡ Some b → (HasEveryCompleted p b.lifted → ⊥) × ((c : ℕ) → IsTaken p start b later c)

-- The layer is the beginning of no call alone.
abbrev pub IsRootAlone : ℕ → List Beginning → Type 0
IsRootAlone calls layer = (b : Beginning) × (layer ≡ b ∷ []) × (b.lifted ≡ replicate calls false) × (b.grown ≡ 0) × (b.first ≡ 0)
