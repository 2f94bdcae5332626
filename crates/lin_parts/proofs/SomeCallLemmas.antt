-- The problem of some of a problem's calls.
use Rattle.std.proofs.Common.{◌≡◌, ℕ, zero, suc, ◌+◌, ◌-◌, ◌<◌, ◌≤◌, Some, List, [], ◌∷◌, ◌++◌, length, inl, inr, refl, sym, ◌∙◌, ap, arith}
use Rattle.std.specs.Prelude.{slice_get, slice_index}
use Rattle.std.proofs.lemmas.Option.{slice_get_within}
use Rattle.lin_object.specs.declared.op.Op.{Op}
use Rattle.lin_object.specs.declared.reply.Reply.{Reply}
use Rattle.lin_history.specs.declared.problems.problem.ProblemCall.{ProblemCall}
use Rattle.lin_history.specs.Problems.Lists.{In}
use Rattle.lin_history.specs.Problems.Problem.{Problem}
use Rattle.lin_history.specs.Problems.ProblemParts.{AreTimed}
use Rattle.lin_parts.specs.Parts.{ArePart, IsRising, name, AreSomeCalls}
use Rattle.lin_parts.specs.PartLemmas.{name_in}
use Rattle.lin_parts.specs.ListLemmas.{last_or}

pub rising_at : (l : List ℕ) → IsRising l → (i j : ℕ) → i < j → j < length l → name l i < name l j
rising_at [] r i j less h = absurd (omega (arith, h))
rising_at (c ∷ l) r i zero less h = absurd (omega (arith, less))
rising_at (c ∷ l) r zero (suc j) less h = r.0 (name l j) (name_in l j (omega (arith, h)))
rising_at (c ∷ l) r (suc i) (suc j) less h = rising_at l r.1 i j (omega (arith, less)) (omega (arith, h))

-- a list that rises below a number is no longer than it
rising_from : (low n : ℕ) (l : List ℕ) → IsRising l → ((c : ℕ) → In c l → (low ≤ c) × (c < n)) → length l ≤ n - low
rising_from low n [] r inside = omega arith
rising_from low n (c ∷ cs) r inside =
    let first = inside c (inl refl) in
    let rest = rising_from (suc c) n cs r.1 (λ d h. ((let less = r.0 d h in omega (arith, less)), (inside d (inr h)).1)) in
    let a = first.0 in
    let b = first.1 in
    omega (arith, a, b, rest)

rising_short : (n : ℕ) (l : List ℕ) → IsRising l → ((c : ℕ) → In c l → c < n) → length l ≤ n
rising_short n l r below = let few = rising_from 0 n l r (λ c h. (omega arith, below c h)) in omega (arith, few)

-- ---- some calls of a problem

module _ {State Op Reply : Type 0} (p : Problem State Op Reply) (kept : List ℕ) (some : AreSomeCalls p kept) where
  pub some_few : (most : ℕ) → length p.calls ≤ most → length kept ≤ most
  some_few most few = let short = rising_short (length p.calls) kept some.0 some.1 in omega (arith, few, short)

  module _ (calls : List (ProblemCall Op Reply)) (count : length calls ≡ length kept) (same : (i : ℕ) → i < length kept → slice_get calls i ≡ slice_get p.calls (slice_index kept i)) where
    pub some_part : ArePart p kept calls
    some_part = record { count = count; same = same; rises = rising_at kept some.0 }

    within : (i : ℕ) (x : ProblemCall Op Reply) → slice_get calls i ≡ Some x → i < length kept
    within i x at = let less = slice_get_within calls i x at in omega (arith, less, count)

    there : (i : ℕ) (x : ProblemCall Op Reply) → slice_get calls i ≡ Some x → slice_get p.calls (slice_index kept i) ≡ Some x
    there i x at = sym (same i (within i x at)) ∙ at

    pub some_timed : AreTimed p.calls → AreTimed calls
    some_timed timed = record {
      called = λ a b x y less at_a at_b. timed.called (slice_index kept a) (slice_index kept b) x y (rising_at kept some.0 a b less (within b y at_b)) (there a x at_a) (there b y at_b);
      returned = λ a x r at_a is. timed.returned (slice_index kept a) x r (there a x at_a) is;
      apart = λ a b x y r at_a at_b is. timed.apart (slice_index kept a) (slice_index kept b) x y r (there a x at_a) (there b y at_b) is;
    }

-- the calls so far, with one more
pub some_more_calls : {A : Type 0} (whole old new : List A) (kept : List ℕ) (i : ℕ) (x : A) → length old ≡ i → new ≡ old ++ x ∷ [] → slice_get whole (slice_index kept i) ≡ Some x
    → ((j : ℕ) → j < i → slice_get old j ≡ slice_get whole (slice_index kept j)) → (j : ℕ) → j < i + 1 → slice_get new j ≡ slice_get whole (slice_index kept j)
some_more_calls {A} whole old new kept i x count is here each j less = ap (λ (l : List A). slice_get l j) is ∙ elim (last_or j i less) [
  | inl early ↦ get_front old x j (omega (arith, early, count)) ∙ each j early
  | inr same ↦ ap (slice_get (old ++ x ∷ [])) (same ∙ sym count) ∙ (get_last old x ∙ (sym here ∙ ap (λ (k : ℕ). slice_get whole (slice_index kept k)) (sym same)))
]
  where
    get_front : (xs : List A) (y : A) (k : ℕ) → k < length xs → slice_get (xs ++ y ∷ []) k ≡ slice_get xs k
    get_front [] y k h = absurd (omega (arith, h))
    get_front (z ∷ xs) y zero h = refl
    get_front (z ∷ xs) y (suc k) h = get_front xs y k (omega (arith, h))

    get_last : (xs : List A) (y : A) → slice_get (xs ++ y ∷ []) (length xs) ≡ Some y
    get_last [] y = refl
    get_last (z ∷ xs) y = get_last xs y
