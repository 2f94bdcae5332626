-- The first item of a list.
use Rattle.std.proofs.Common.{◌≡◌, Bool, true, false, Option, is_some, List, [], ◌∷◌, refl, ap}
use Rattle.std.specs.Prelude.{◌↔◌, ℤ, IsTrue, not, slice_get}

-- no item is first in a list with none
pub first_none : (items : List ℤ) (first : Option ℤ) (none : Bool) → first ≡ slice_get items 0 → is_some first ≡ not none → IsTrue none ↔ (items ≡ [])
first_none [] first true e f = ((λ k. refl), (λ k. refl))
first_none [] first false e f = absurd (let g = ap is_some e in cc)
first_none (v ∷ items) first true e f = absurd (let g = ap is_some e in cc)
first_none (v ∷ items) first false e f = ((λ k. absurd (cc)), (λ k. absurd (cc)))
