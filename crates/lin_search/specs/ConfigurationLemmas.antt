-- That to be the same configuration is an equivalence.
use Rattle.std.specs.Prelude.{◌≡◌, ℕ, Bool, true, false, ◌&&◌, List, ◌++◌, IsTrue, refl}
use Rattle.lin_search.specs.CallSet.{fed_set}
use lib.Pointwise.{pointwise}
use mathlib.Core.Bool.{beq}
use Rattle.lin_search.specs.CallSetLemmas.{flags_same}
use Rattle.std.specs.Cmp.{IsPartialEquivalence, IsEquivalence, and_per, and_equiv, on_per, on_equiv, partial_equiv_from_equiv, bool_eq_equiv}
use Rattle.std.specs.Cmp.Lexicographic.{lists_per, lists_equiv}
use Rattle.lin_search.specs.Configuration.{Configuration, same_configuration}

module _ {State : Type 0} {same : State → State → Bool} where
  pub same_configuration_partial : IsPartialEquivalence same → IsPartialEquivalence (same_configuration same)
  same_configuration_partial states =
      and_per (on_per (λ (c : Configuration State). c.lifted) (lists_per (partial_equiv_from_equiv bool_eq_equiv))) (on_per (λ (c : Configuration State). c.state) states)

  pub same_configuration_equivalence : IsEquivalence same → IsEquivalence (same_configuration same)
  same_configuration_equivalence states =
      and_equiv (on_equiv (λ (c : Configuration State). c.lifted) (lists_equiv bool_eq_equiv)) (on_equiv (λ (c : Configuration State). c.state) states)

pub both_true : (a b : Bool) → a && b ≡ true → (a ≡ true) × (b ≡ true)
both_true true b e = (refl, e)
both_true false b e = absurd (cc)

-- What is the same is hashed alike.
module _ {State : Type 0} (same : State → State → Bool) (fed_state : State → List (List ℕ)) (alike : (s t : State) → IsTrue (same s t) → fed_state s ≡ fed_state t) where
  pub same_input : (a b : Configuration State) → IsTrue (same_configuration same a b) → fed_set a.lifted ++ fed_state a.state ≡ fed_set b.lifted ++ fed_state b.state
  same_input a b e =
      let both = both_true (pointwise beq a.lifted b.lifted) (same a.state b.state) e in
      let set = flags_same a.lifted b.lifted both.0 in
      let state = alike a.state b.state both.1 in
      cc
