-- How many configurations were stored, object by object.
use Rattle.std.proofs.Common.{◌≡◌, ℕ, zero, suc, ◌+◌, ◌*◌, ◌<◌, ◌≤◌, ◌^◌, List, [], ◌∷◌, ◌++◌, length, length-append, Option, Some, None, IfSome, All, ◌⊎◌, inl, inr, refl, sym, ap, ◌∙◌, subst, arith}
use Rattle.std.specs.Prelude.{slice_get, slice_index_or, sum, IsSome, IsSomeAnd}
use Rattle.std.proofs.lemmas.List.Sums.{sum_by_push, sum_by-le}
use Rattle.lin_history.specs.declared.limits.TheConstants.{MAX_OBJECTS}
use Rattle.lin_history.specs.Locality.RecordedWhole.{part_of}
use Rattle.lin_history.specs.Problems.Problem.{Problem}
use Rattle.lin_history.specs.Recorder.RecordedHistory.{RecordedHistory}
use Rattle.lin_workers.specs.Verdict.{IsNumberStored}
use Rattle.lincheck.specs.Stored.{AreStoredOf, IsStoredSum, IsStoredTold}

-- nothing is stored by a first search
pub nothing_stored : {S A R : Type 0} (p : Problem S A R) → IsNumberStored p 0
nothing_stored p = record { few = omega arith; reachable = ([], record { apart = tt; reachable = tt }, refl) }

-- before the first object
pub stored_none : (h : RecordedHistory) → IsStoredTold h 0 (Some 0)
stored_none h = record { is_sum = ([], record { count = refl; each = λ object stored e. absurd (cc) }, refl); is_told = λ few. refl }

last_is : (numbers : List ℕ) (number object o : ℕ) → slice_get (numbers ++ number ∷ []) object ≡ Some o → (slice_get numbers object ≡ Some o) ⊎ ((object ≡ length numbers) × (number ≡ o))
last_is [] number zero o e = inr (refl, cc)
last_is [] number (suc object) o e = absurd (cc)
last_is (x ∷ xs) number zero o e = inl e
last_is (x ∷ xs) number (suc object) o e = elim (last_is xs number object o e) [ inl f ↦ inl f | inr f ↦ inr (omega (arith, f.0), f.1) ]

-- one object more
numbers_more : (h : RecordedHistory) (n : ℕ) (numbers : List ℕ) (number : ℕ) → AreStoredOf h n numbers → IsNumberStored (part_of h n) number → AreStoredOf h (n + 1) (numbers ++ number ∷ [])
numbers_more h n numbers number so_far stored = record {
  count = length-append numbers (number ∷ []) ∙ ap (λ (k : ℕ). k + 1) so_far.count;
  each = λ object o e. at_place object o (last_is numbers number object o e);
}
  where
    at_place : (object : ℕ) (o : ℕ) → (slice_get numbers object ≡ Some o) ⊎ ((object ≡ length numbers) × (number ≡ o)) → IsNumberStored (part_of h object) o
    at_place object o (inl e) = so_far.each object o e
    at_place object o (inr e) =
        let same : object ≡ n = e.0 ∙ so_far.count in
        subst (λ (k : ℕ). IsNumberStored (part_of h k) o) (sym same) (subst (IsNumberStored (part_of h n)) e.1 stored)

-- each number of a list is small where each place has a small one
all_small : (numbers : List ℕ) (most : ℕ) → ((object o : ℕ) → slice_get numbers object ≡ Some o → o ≤ most) → All (λ (x : ℕ). x ≤ most) numbers
all_small numbers most small k d below = small k (slice_index_or numbers k d) (there numbers k d below)
  where
    there : (xs : List ℕ) (k d : ℕ) → k < length xs → slice_get xs k ≡ Some (slice_index_or xs k d)
    there [] k d below = absurd (omega (arith, below))
    there (x ∷ xs) zero d below = refl
    there (x ∷ xs) (suc k) d below = there xs k d (omega (arith, below))

-- the sum over so many objects has 64 bits
sum_fits : (h : RecordedHistory) (n : ℕ) (numbers : List ℕ) (number : ℕ) → AreStoredOf h n numbers → IsNumberStored (part_of h n) number → n + 1 ≤ MAX_OBJECTS → sum numbers + number < 2 ^ 64
sum_fits h n numbers number so_far stored few =
    let most = sum_by-le (λ (x : ℕ). x) 18014398509481983 numbers (all_small numbers 18014398509481983 (λ object o e. let q = (so_far.each object o e).few in omega (arith, q))) in
    let last = stored.few in
    let count = so_far.count in
    omega (arith, most, last, count, few)

pub stored_more : (h : RecordedHistory) (n : ℕ) (stored more all : Option ℕ) → IsStoredTold h n stored → IsSomeAnd more (IsNumberStored (part_of h n))
    → IfSome all (λ a. IsSomeAnd stored (λ before. IsSomeAnd more (λ number. a ≡ before + number)))
    → IfSome stored (λ before. IfSome more (λ number. before + number < 2 ^ 64 → IsSome all))
    → IsStoredTold h (n + 1) all
stored_more h n stored None all so_far is sum_is told = absurd is
stored_more h n None (Some number) (Some a) so_far is sum_is told = absurd sum_is
stored_more h n None (Some number) None so_far is sum_is told = record { is_sum = tt; is_told = λ few. absurd (let q = so_far.is_told (omega (arith, few)) in cc) }
stored_more h n (Some before) (Some number) all so_far is sum_is told =
    let q = so_far.is_sum in
    let told_of : n + 1 ≤ MAX_OBJECTS → IsSome all = λ few. told (subst (λ (k : ℕ). k + number < 2 ^ 64) (sym q.2) (sum_fits h n q.0 number q.1 is few)) in
    told_more h n before number all q is sum_is told_of
  where
    told_more : (h : RecordedHistory) (n : ℕ) (before number : ℕ) (all : Option ℕ) → IsStoredSum h n before → IsNumberStored (part_of h n) number → IfSome all (λ a. a ≡ before + number) → (n + 1 ≤ MAX_OBJECTS → IsSome all) → IsStoredTold h (n + 1) all
    told_more h n before number None q is e told = record { is_sum = tt; is_told = told }
    told_more h n before number (Some a) q is e told =
        record { is_sum = (q.0 ++ number ∷ [], numbers_more h n q.0 number q.1 is, e ∙ ap (λ (k : ℕ). k + number) q.2 ∙ sym (sum_by_push (λ (x : ℕ). x) q.0 number)); is_told = told }
