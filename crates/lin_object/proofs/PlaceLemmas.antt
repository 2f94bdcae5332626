-- Where the first member of a list that passes stands, and the end where none does.
use Rattle.std.specs.Prelude.{◌≡◌, ◌≤◌, ℕ, not, nat_lt, cond, length, List, Some, None, refl}
use Rattle.std.proofs.Common.{arith, Bool, true, false}
use Rattle.std.specs.List.{position, position_or_len}
use Rattle.std.specs.Option.{unwrap_or}
use Rattle.std.proofs.lemmas.Bool.{ltb-false}
use Rattle.std.proofs.lemmas.List.Sums.{prefix_len-le-length}

place_or_len : {n k : ℕ} (found : Bool) → nat_lt k n ≡ found → k ≤ n → unwrap_or (cond found (Some k) None) n ≡ k
place_or_len true e within = refl
place_or_len false e within = omega (arith, ltb-false _ _ e)

pub first_place : {X : Type 0} (passes : X → Bool) (xs : List X) → unwrap_or (position passes xs) (length xs) ≡ position_or_len passes xs
first_place passes xs = place_or_len (nat_lt (position_or_len passes xs) (length xs)) refl (prefix_len-le-length (λ x. not (passes x)) xs)
