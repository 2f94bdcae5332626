use Rattle.std.specs.Prelude.{◌≡◌, ℕ, ℤ, not, length, List, Option}
use Rattle.std.proofs.Common.{rules, ap, ◌∙◌, int_lt}
use Rattle.std.specs.List.{position}
use Rattle.std.specs.Option.{unwrap_or}
use Rattle.lin_object.specs.Pairs.{place_of_key}
use Rattle.lin_object.specs.declared.pairs.Pair.{Pair}
use Rattle.lin_object.proofs.PlaceLemmas.{first_place}
use Rattle.lin_object.proofs.pairs.place_of_key.Goals as goal

place_found : (key passed : ℤ) (ps : List Pair) (found : Option ℕ) → passed ≡ key → found ≡ position (λ (pair : Pair). not (int_lt pair.key passed)) ps → unwrap_or found (length ps) ≡ place_of_key key ps
place_found key passed ps found same is = ap (λ o. unwrap_or o (length ps)) is ∙ first_place (λ (pair : Pair). not (int_lt pair.key passed)) ps ∙ ap (λ k. place_of_key k ps) same

pub returns-clause-place : goal.returns-clause-place
returns-clause-place c = c.unwrap_or.ensures ∙ place_found _ _ _ _ (search rules) c.first_not_lower.ensures.value
