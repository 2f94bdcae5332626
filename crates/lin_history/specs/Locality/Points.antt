-- Calls with their points.
use Rattle.std.specs.Prelude.{◌≡◌, ℕ, ◌≤◌, ◌==◌, max, Bool, List, [], ◌∷◌, map, filter, slice_get, Some, IsSome}
use Rattle.lin_object.specs.declared.reply.Reply.{Reply}
use Rattle.lin_history.specs.declared.locality.placed.Placed.{Placed}
use Rattle.lin_history.specs.declared.locality.joining.Pointed.{Pointed}
use Rattle.lin_history.specs.Locality.Whole.{Whole, Has, is_call_on}
use Rattle.lin_history.specs.Locality.JoinedOrder.{Places, called_at, object_of}

-- The call without its point.
abbrev pub placed_of : Pointed → Placed Reply
placed_of p = p.placed

-- It has this point.
abbrev pub has_point : ℕ → Pointed → Bool
has_point n p = p.point == n

-- The points never fall, and none is below n.
abbrev pub Rise : ℕ → List Pointed → Type 0
Rise n [] = Unit {0}
Rise n (p ∷ ps) = (n ≤ p.point) × Rise p.point ps

module _ {State Op : Type 0} (h : Whole State Op Reply) where
  -- The calls, each with the greatest number of a call event among n and the calls up to and with it.
  abbrev pub with_points : ℕ → List (Placed Reply) → List Pointed
  with_points n [] = []
  with_points n (x ∷ xs) = (record { point = max n (called_at h x.call); placed = x }) ∷ with_points (max n (called_at h x.call)) xs

  -- The call is on the object.
  abbrev pub is_point_on : ℕ → Pointed → Bool
  is_point_on object p = is_call_on h object p.placed.call

  -- They are the calls of the object's order, in that order, with their points.
  abbrev pub ArePointsOf : ℕ → List ℕ → List Pointed → Type 0
  ArePointsOf object order ps = (l : List (Placed Reply)) × Places h object (h.starts object) order l × (ps ≡ with_points 0 l)

  -- They are the calls of the orders, one for each object, with their points, and no other.
  pub record AreOrders (orders : List (List ℕ)) (ps : List Pointed) : Type 0 where
    pub each : (object : ℕ) (order : List ℕ) → slice_get orders object ≡ Some order → ArePointsOf object order (filter (is_point_on object) ps)
    pub known : (a : ℕ) → Has h a (map placed_of ps) → IsSome (slice_get h.calls a) × IsSome (slice_get orders (object_of h a))
