use Rattle.std.specs.Prelude.{◌≡◌, ℕ, ℤ, length, List, Option}
use Rattle.std.proofs.Common.{rules, ap, ◌∙◌, int_lt}
use Rattle.std.specs.List.{position, position_or_len}
use Rattle.std.specs.Option.{unwrap_or}
use Rattle.lin_object.proofs.PlaceLemmas.{first_place}
use Rattle.lin_object.proofs.items.place_of.Goals as goal

place_found : (item passed : ℤ) (xs : List ℤ) (found : Option ℕ) → passed ≡ item → found ≡ position (λ x. int_lt passed x) xs → unwrap_or found (length xs) ≡ position_or_len (λ x. int_lt item x) xs
place_found item passed xs found same is = ap (λ o. unwrap_or o (length xs)) is ∙ first_place (λ x. int_lt passed x) xs ∙ ap (λ i. position_or_len (λ x. int_lt i x) xs) same

pub returns-clause-place : goal.returns-clause-place
returns-clause-place c = c.unwrap_or.ensures ∙ place_found _ _ _ _ (search rules) c.first_greater.ensures.value
