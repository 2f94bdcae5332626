-- The places of a problem's calls, found in one walk over the events.
use Rattle.std.proofs.Common.{◌≡◌, ◌≢◌, ℕ, zero, suc, ◌+◌, ◌<◌, Option, Some, List, [], ◌∷◌, length, set, inl, inr, refl, sym, ap, ◌∙◌, arith}
use Rattle.std.specs.List.{slice_get}
use Rattle.std.proofs.lemmas.Option.{slice_get_within, same_Some}
use Rattle.std.proofs.lemmas.List.{length-set}
use Rattle.lin_history.specs.declared.problems.timeline.ProblemEvent.{ProblemEvent}
use Rattle.lin_history.specs.declared.problems.timeline.ProblemEvent.TheVariants.{Call, Return}
use Rattle.lin_search.specs.CallSetLemmas.{below_or_last, same_or_not}
use Rattle.lin_search.specs.CallEntries.{CallEntries, AreCallEntries}

-- The places of the calls whose events stand below n.
pub record AreEntriesBelow (calls : ℕ) (events : List ProblemEvent) (n : ℕ) (called : List ℕ) (returned : List (Option ℕ)) : Type 0 where
  pub called_count : length called ≡ calls
  pub returned_count : length returned ≡ calls
  pub called_at : (i c : ℕ) → i < n → slice_get events i ≡ Some (Call c) → slice_get called c ≡ Some (i + 1)
  pub returned_at : (i c : ℕ) → i < n → slice_get events i ≡ Some (Return c) → slice_get returned c ≡ Some (Some (i + 1))
  pub only : (c e : ℕ) → slice_get returned c ≡ Some (Some e) → (i : ℕ) × (e ≡ i + 1) × (slice_get events i ≡ Some (Return c))

module _ {A : Type 0} where
  pub set_same : (xs : List A) (i : ℕ) (y : A) → i < length xs → slice_get (set xs i y) i ≡ Some y
  set_same [] i y h = absurd (omega (arith, h))
  set_same (x ∷ xs) zero y h = refl
  set_same (x ∷ xs) (suc i) y h = set_same xs i y (omega (arith, h))

  pub set_other : (xs : List A) (i j : ℕ) (y : A) → j ≢ i → slice_get (set xs i y) j ≡ slice_get xs j
  set_other [] i j y ne = refl
  set_other (x ∷ xs) zero zero y ne = absurd (ne refl)
  set_other (x ∷ xs) zero (suc j) y ne = refl
  set_other (x ∷ xs) (suc i) zero y ne = refl
  set_other (x ∷ xs) (suc i) (suc j) y ne = set_other xs i j y (λ e. ne (ap suc e))

pub call_or_return : (c d : ℕ) → Call c ≡ Return d → ⊥
call_or_return c d e = cc

abbrev pub call_of : ProblemEvent → ℕ
call_of (Call c) = c
call_of (Return c) = c

module _ (calls : ℕ) (events : List ProblemEvent) (once : (i j : ℕ) (e : ProblemEvent) → slice_get events i ≡ Some e → slice_get events j ≡ Some e → i ≡ j) (n : ℕ) (called : List ℕ) (returned : List (Option ℕ)) (below : AreEntriesBelow calls events n called returned) where
  two : (i : ℕ) (e f : ProblemEvent) → slice_get events i ≡ Some e → slice_get events i ≡ Some f → e ≡ f
  two i e f g h = same_Some e f (sym g ∙ h)

  same_called : (c d : ℕ) → Call c ≡ Call d → c ≡ d
  same_called c d e = cc

  same_returned : (c d : ℕ) → Return c ≡ Return d → c ≡ d
  same_returned c d e = cc

  -- a call event more
  pub places_called : (c : ℕ) → slice_get events n ≡ Some (Call c) → c < calls → AreEntriesBelow calls events (n + 1) (set called c (n + 1)) returned
  places_called c there within = record {
    called_count = length-set called c (n + 1) ∙ below.called_count;
    returned_count = below.returned_count;
    called_at = λ i d h e. elim (below_or_last i n h) [
      | inl q ↦ elim (same_or_not d c) [
        | inl same ↦ (let k = once i n (Call d) e (there ∙ ap (λ (x : ℕ). Some (Call x)) (sym same)) in absurd (omega (arith, k, q)))
        | inr ne ↦ set_other called c d (n + 1) ne ∙ below.called_at i d q e
      ]
      | inr q ↦ (
          let same : d ≡ c = same_called d c (two n (Call d) (Call c) (ap (λ (x : ℕ). slice_get events x) (sym q) ∙ e) there) in
          let w = below.called_count in
          ap (λ (x : ℕ). slice_get (set called c (n + 1)) x) same ∙ set_same called c (n + 1) (omega (arith, w, within)) ∙ ap (λ (x : ℕ). Some (x + 1)) (sym q)
          )
    ];
    returned_at = λ i d h e. elim (below_or_last i n h) [
      | inl q ↦ below.returned_at i d q e
      | inr q ↦ absurd (call_or_return c d (two n (Call c) (Return d) there (ap (λ (x : ℕ). slice_get events x) (sym q) ∙ e)))
    ];
    only = below.only;
  }

  -- a return event more
  pub places_returned : (c : ℕ) → slice_get events n ≡ Some (Return c) → c < calls → AreEntriesBelow calls events (n + 1) called (set returned c (Some (n + 1)))
  places_returned c there within = record {
    called_count = below.called_count;
    returned_count = length-set returned c (Some (n + 1)) ∙ below.returned_count;
    called_at = λ i d h e. elim (below_or_last i n h) [
      | inl q ↦ below.called_at i d q e
      | inr q ↦ absurd (call_or_return d c (two n (Call d) (Return c) (ap (λ (x : ℕ). slice_get events x) (sym q) ∙ e) there))
    ];
    returned_at = λ i d h e. elim (below_or_last i n h) [
      | inl q ↦ elim (same_or_not d c) [
        | inl same ↦ (let k = once i n (Return d) e (there ∙ ap (λ (x : ℕ). Some (Return x)) (sym same)) in absurd (omega (arith, k, q)))
        | inr ne ↦ set_other returned c d (Some (n + 1)) ne ∙ below.returned_at i d q e
      ]
      | inr q ↦ (
          let same : d ≡ c = same_returned d c (two n (Return d) (Return c) (ap (λ (x : ℕ). slice_get events x) (sym q) ∙ e) there) in
          let w = below.returned_count in
          ap (λ (x : ℕ). slice_get (set returned c (Some (n + 1))) x) same ∙ set_same returned c (Some (n + 1)) (omega (arith, w, within)) ∙ ap (λ (x : ℕ). Some (Some (x + 1))) (sym q)
          )
    ];
    only = λ d e g. elim (same_or_not d c) [
      | inl same ↦ (
          let w = below.returned_count in
          let f : Some (Some e) ≡ Some (Some (n + 1)) = sym g ∙ (ap (λ (x : ℕ). slice_get (set returned c (Some (n + 1))) x) same ∙ set_same returned c (Some (n + 1)) (omega (arith, w, within))) in
          (n, same_Some e (n + 1) (same_Some (Some e) (Some (n + 1)) f), there ∙ ap (λ (x : ℕ). Some (Return x)) (sym same))
          )
      | inr ne ↦ below.only d e (sym (set_other returned c d (Some (n + 1)) ne) ∙ g)
    ];
  }

pub places_all : (calls : ℕ) (events : List ProblemEvent) (n : ℕ) (places : CallEntries) → n ≡ length events → AreEntriesBelow calls events n places.called places.returned → AreCallEntries calls events places
places_all calls events n places e k = record {
  called_count = k.called_count;
  returned_count = k.returned_count;
  called = λ i c g. let w = slice_get_within events i (Call c) g in k.called_at i c (omega (arith, e, w)) g;
  returned = λ i c g. let w = slice_get_within events i (Return c) g in k.returned_at i c (omega (arith, e, w)) g;
  only = k.only;
}
