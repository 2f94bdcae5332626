-- Linearizations of a whole history (Herlihy and Wing 1990): lists of calls with replies over all objects, which know
-- nothing of the split by object.
use Rattle.std.specs.Prelude.{◌≡◌, ℕ, ◌<◌, ◌==◌, Bool, true, false, List, [], ◌∷◌, filter, slice_get, Option, Some, IsSome, IsSomeAnd, ◌⊎◌, if◌then◌else◌}
use Rattle.std.specs.Option.{option_map_or}
use Rattle.lin_history.specs.declared.locality.placed.Placed.{Placed}
use Rattle.lin_history.specs.Recorder.Events.{Call}
use Rattle.lin_history.specs.Problems.LegalLists.{fits}

-- What the definitions need of a history: what an operation does to a state, when two replies are equal (the type's own
-- `Eq`), the state in which each object starts, and the calls by their indices.
pub record Whole (State Op Reply : Type 0) : Type 0 where
  pub after : State → ℕ → Op → Option (State × Reply)
  pub same_reply : Reply → Reply → Bool
  pub starts : ℕ → State
  pub calls : List (Call Op Reply)

module _ {State Op Reply : Type 0} (h : Whole State Op Reply) where
  -- Call a returned before call b was called; a pending call precedes nothing.
  abbrev pub Precedes : ℕ → ℕ → Type 0
  Precedes a b = IsSomeAnd (slice_get h.calls a) (λ x. IsSomeAnd x.returned (λ r. IsSomeAnd (slice_get h.calls b) (λ y. r.0 < y.called)))

  -- Call a has returned.
  abbrev pub HasReturned : ℕ → Type 0
  HasReturned a = IsSomeAnd (slice_get h.calls a) (λ x. IsSome x.returned)

  -- The call is one of the list.
  abbrev pub Has : ℕ → List (Placed Reply) → Type 0
  Has a [] = ⊥
  Has a (x ∷ xs) = (x.call ≡ a) ⊎ Has a xs

  -- No call is in the list twice.
  abbrev pub AreDistinct : List (Placed Reply) → Type 0
  AreDistinct [] = Unit {0}
  AreDistinct (x ∷ xs) = (Has x.call xs → ⊥) × AreDistinct xs

  -- The list keeps real time: no call of it precedes one that comes before it, or itself.
  abbrev pub KeepsOrder : List (Placed Reply) → Type 0
  KeepsOrder [] = Unit {0}
  KeepsOrder (x ∷ xs) = ((a : ℕ) → Has a (x ∷ xs) → Precedes a x.call → ⊥) × KeepsOrder xs

  -- The call c has a step from s to m with the reply of x, which is the recorded one where one is recorded.
  pub record Steps (s : State) (c : Call Op Reply) (x : Placed Reply) (m : State) : Type 0 where
    pub call : slice_get h.calls x.call ≡ Some c
    pub step : h.after s c.process c.op ≡ Some (m, x.reply)
    pub recorded : fits h.same_reply x.reply c.returned ≡ true

  -- The states of the objects, of which this one has the state m.
  abbrev pub with_state : (ℕ → State) → ℕ → State → ℕ → State
  with_state states object m k = if object == k then m else states k

  -- The list is legal, replayed over a map from objects to states.
  abbrev pub Replays : (ℕ → State) → List (Placed Reply) → Type 0
  Replays states [] = Unit {0}
  Replays states (x ∷ xs) = (c : Call Op Reply) × (m : State) × Steps (states c.object) c x m × Replays (with_state states c.object m) xs

  -- A linearization of the whole: distinct calls of the history, with every completed call, in an order that keeps real
  -- time and is legal from the start states.
  pub record IsLinearizationOfWhole (l : List (Placed Reply)) : Type 0 where
    pub distinct : AreDistinct l
    pub complete : (a : ℕ) → HasReturned a → Has a l
    pub ordered : KeepsOrder l
    pub legal : Replays h.starts l

  -- ---- the part on one object

  -- The call is on the object.
  abbrev pub is_call_on : ℕ → ℕ → Bool
  is_call_on object a = option_map_or (λ x. x.object == object) (slice_get h.calls a) false

  -- The calls of a list that are on the object.
  abbrev pub part : ℕ → List (Placed Reply) → List (Placed Reply)
  part object l = filter (λ x. is_call_on object x.call) l

  -- The list is legal, replayed on one object from one state.
  abbrev pub Runs : State → List (Placed Reply) → Type 0
  Runs s [] = Unit {0}
  Runs s (x ∷ xs) = (c : Call Op Reply) × (m : State) × Steps s c x m × Runs m xs

  -- A linearization of the calls on one object, as a list of calls of the history with their replies.
  pub record IsLinearizationOfPart (object : ℕ) (l : List (Placed Reply)) : Type 0 where
    pub on : (a : ℕ) → Has a l → is_call_on object a ≡ true
    pub distinct : AreDistinct l
    pub complete : (a : ℕ) → HasReturned a → is_call_on object a ≡ true → Has a l
    pub ordered : KeepsOrder l
    pub legal : Runs (h.starts object) l
