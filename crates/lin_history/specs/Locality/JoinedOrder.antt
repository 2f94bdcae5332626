-- One order for each object, joined in one order of the whole by the points of the calls (this project's own; the point
-- lies between call and return, after Herlihy and Wing 1990).
use Rattle.std.specs.Prelude.{◌≡◌, ℕ, ◌+◌, ◌≤◌, ◌==◌, max, List, [], ◌∷◌, ◌++◌, slice_get, Option, Some, IsSome, if◌then◌else◌}
use Rattle.std.specs.Option.{option_map_or}
use Rattle.lin_history.specs.declared.locality.placed.Placed.{Placed}
use Rattle.lin_history.specs.Recorder.Events.{Call}
use Rattle.lin_history.specs.Locality.Whole.{Whole, Has, Steps, part}

-- The indices of the calls on the object, where the first of the calls has index n.
abbrev pub indices_from : {Op Reply : Type 0} → ℕ → ℕ → List (Call Op Reply) → List ℕ
indices_from object n [] = []
indices_from object n (c ∷ cs) = if c.object == object then n ∷ indices_from object (n + 1) cs else indices_from object (n + 1) cs

module _ {State Op Reply : Type 0} (h : Whole State Op Reply) where
  -- The index of the call on the object that has this number among them.
  abbrev pub index_of : ℕ → ℕ → Option ℕ
  index_of object number = slice_get (indices_from object 0 h.calls) number

  -- The list has the calls of the object's order, by their indices, each with the reply of its step, from state s.
  abbrev pub Places : ℕ → State → List ℕ → List (Placed Reply) → Type 0
  Places object s [] [] = Unit {0}
  Places object s (c ∷ cs) (x ∷ xs) = (index_of object c ≡ Some x.call) × ((d : Call Op Reply) × (m : State) × Steps h s d x m × Places object m cs xs)
  Places object s [] (x ∷ xs) = ⊥
  Places object s (c ∷ cs) [] = ⊥

  -- The number of the call's call event.
  abbrev pub called_at : ℕ → ℕ
  called_at a = option_map_or (λ x. x.called) (slice_get h.calls a) 0

  -- The greatest number of a call event of these calls.
  abbrev pub greatest_call : List (Placed Reply) → ℕ
  greatest_call [] = 0
  greatest_call (x ∷ xs) = max (called_at x.call) (greatest_call xs)

  -- The point of a call that comes after these in its object's order: the greatest number of a call event among them
  -- and its own.
  abbrev pub point : List (Placed Reply) → ℕ → ℕ
  point early a = max (greatest_call early) (called_at a)

  -- The object of the call.
  abbrev pub object_of : ℕ → ℕ
  object_of a = option_map_or (λ x. x.object) (slice_get h.calls a) 0

  -- The point of a call that comes after these in an order of the whole.
  abbrev pub point_after : List (Placed Reply) → Placed Reply → ℕ
  point_after early x = point (part h (object_of x.call) early) x.call

  -- The list is one order for each object, joined: it has the calls of the orders with their replies and no other, each
  -- object's in the object's own order, and their points never fall.
  pub record IsJoined (orders : List (List ℕ)) (l : List (Placed Reply)) : Type 0 where
    pub parts : (object : ℕ) (order : List ℕ) → slice_get orders object ≡ Some order → Places object (h.starts object) order (part h object l)
    pub known : (a : ℕ) → Has h a l → IsSome (slice_get h.calls a) × IsSome (slice_get orders (object_of a))
    pub sorted : (early : List (Placed Reply)) (x : Placed Reply) (mid : List (Placed Reply)) (y : Placed Reply) (late : List (Placed Reply)) → l ≡ early ++ x ∷ (mid ++ y ∷ late) → point_after early x ≤ point_after (early ++ x ∷ mid) y
