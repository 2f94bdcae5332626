-- Lemmas on the numbers below a bound, each counted once, and on lists that divide them.
use Rattle.std.proofs.Common.{◌≡◌, ◌≢◌, ℕ, zero, suc, ◌+◌, ◌<◌, ◌≤◌, min, List, [], ◌∷◌, length, get_or, refl, ap, ◌∙◌, arith, eqb, ⊎_elim}
use Rattle.std.proofs.lemmas.Bool.Decides.{nat_tests}
use Rattle.std.proofs.lemmas.Bool.{cases_lt}
use Rattle.lin_board.specs.Lists.Totals.{one_if, total, times}
use Rattle.lin_board.specs.Lists.TotalLemmas.{All-from_total}
use Rattle.lin_board.specs.Lists.Division.{once_below, Divides}

pub once_below-lt : (x n : ℕ) → x < n → once_below x n ≡ 1
once_below-lt x n h = grind (arith, nat_tests)

pub once_below-ge : (x n : ℕ) → n ≤ x → once_below x n ≡ 0
once_below-ge x n h = grind (arith, nat_tests)

pub lt_from_once_below : (x n : ℕ) → 0 < once_below x n → x < n
lt_from_once_below x n h = grind (arith, nat_tests)

-- one number more
pub once_below-step : (next n x : ℕ) → next < n → once_below x (min (next + 1) n) ≡ once_below x (min next n) + one_if (eqb next x)
once_below-step next n x h =
    let a : min (next + 1) n ≡ next + 1 = omega arith in
    let b : min next n ≡ next = omega arith in
    rw (a, b) (grind (arith, nat_tests))

module _ {X : Type 0} (f : X → ℕ) (d : X) where
  -- where f adds up to 1, it is 1 of one element and 0 of the others
  one_from_total : (l : List X) → total f l ≡ 1 → (i : ℕ) × (i < length l) × (f (get_or l i d) ≡ 1) × ((j : ℕ) → j < length l → j ≢ i → f (get_or l j d) ≡ 0)
  one_from_total [] s = absurd (omega arith)
  one_from_total (x ∷ xs) s =
      ⊎_elim
      (λ (p : 0 < f x). (0, omega arith, omega arith, at_others p))
      (λ (z : f x ≤ 0). let r = one_from_total xs (omega arith) in let b = r.1 in (suc r.0, omega arith, r.2, at_head z r.0 r.3))
      (cases_lt 0 (f x))
    where
      at_others : 0 < f x → (j : ℕ) → j < length (x ∷ xs) → j ≢ 0 → f (get_or (x ∷ xs) j d) ≡ 0
      at_others p zero h ne = absurd (ne refl)
      at_others p (suc j) h ne = All-from_total f xs (omega arith) j d (omega arith)

      at_head : f x ≤ 0 → (i : ℕ) → ((j : ℕ) → j < length xs → j ≢ i → f (get_or xs j d) ≡ 0) → (j : ℕ) → j < length (x ∷ xs) → j ≢ suc i → f (get_or (x ∷ xs) j d) ≡ 0
      at_head z i rest zero h ne = omega arith
      at_head z i rest (suc j) h ne = rest j (omega arith) (λ e. ne (ap suc e))

-- lists in which, together, each number below n is once and no other number is, divide the numbers below n
pub Divides-from_total : (n : ℕ) (lists : List (List ℕ)) → ((x : ℕ) → total (times x) lists ≡ once_below x n) → Divides n lists
Divides-from_total n lists sums = record {
  below = λ x h. one_from_total (times x) [] lists (sums x ∙ once_below-lt x n h);
  others = λ x h. All-from_total (times x) lists (sums x ∙ once_below-ge x n h);
}
