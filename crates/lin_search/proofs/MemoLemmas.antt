-- What a memo holds as a search goes on, and that a closed one which holds the root holds every reachable configuration.
use Rattle.std.proofs.Common.{not, ◌≡◌, ℕ, zero, suc, ◌+◌, ◌<◌, ◌≤◌, Bool, true, false, List, [], ◌∷◌, length, replicate, ◌⊎◌, inl, inr, refl, sym, ◌∙◌, ap, subst, arith}
use Rattle.std.proofs.lemmas.List.{length-set, length-replicate}
use Rattle.std.proofs.lemmas.Bool.{cases_lt}
use Rattle.lin_history.specs.Problems.Problem.{Problem}
use Rattle.lin_history.specs.Problems.Lists.{In}
use Rattle.lin_history.specs.Problems.LegalLists.{Legal}
use Rattle.lin_history.specs.Problems.Continuations.{has, IsContinuation, no_calls}
use Rattle.lin_history.specs.Problems.Configurations.{IsReachable}
use Rattle.lin_search.specs.CallSet.{with_call, with_calls}
use Rattle.lin_search.specs.NextCall.{IsNext}
use Rattle.lin_search.specs.declared.longest.Longest.{Longest}
use Rattle.lin_search.specs.Configuration.{Configuration}
use Rattle.lin_search.specs.Memo.{IsClosed}
use Rattle.lin_search.specs.Progress.{HoldsBelow}
use Rattle.lin_search.specs.Store.{Holds}
use Rattle.lin_search.specs.FirstCallLemmas.{continuation_split, next_within, next_one}
use Rattle.lin_search.specs.CallSetLemmas.{below_or_last, length_calls, has_same, has_with, has_still}
use Rattle.lin_search.specs.AlikeLemmas.{AreAlike}

module _ {State Op Reply : Type 0} (p : Problem State Op Reply) where
  pub followed_start : (holds : List Bool → State → Type 0) (set : List Bool) (s : State) → HoldsBelow p holds set s 0
  followed_start holds set s c h = absurd (omega (arith, h))

  -- calls that can't follow are passed over
  pub followed_to : (holds : List Bool → State → Type 0) (set : List Bool) (s : State) (i j : ℕ) → HoldsBelow p holds set s i → ((c : ℕ) → i ≤ c → c < j → (t : State) → IsNext p set s c t → ⊥) → HoldsBelow p holds set s j
  followed_to holds set s i j k none c h t n = elim (cases_lt c i) [ inl q ↦ k c q t n | inr q ↦ absurd (none c q h t n) ]

  -- one call that can't follow is passed over
  pub followed_one : (holds : List Bool → State → Type 0) (set : List Bool) (s : State) (i : ℕ) → HoldsBelow p holds set s i → ((t : State) → IsNext p set s i t → ⊥) → HoldsBelow p holds set s (i + 1)
  followed_one holds set s i k none c h t n = elim (below_or_last c i h) [ inl q ↦ k c q t n | inr q ↦ absurd (none t (subst (λ (x : ℕ). IsNext p set s x t) q n)) ]

  pub followed_next : (old new : List Bool → State → Type 0) (set : List Bool) (s : State) (i : ℕ) (u : State) → ((set : List Bool) (s : State) → old set s → new set s) → HoldsBelow p old set s i → IsNext p set s i u → new (with_call set i) u → HoldsBelow p new set s (i + 1)
  followed_next old new set s i u lasting k is_next held c h t n =
      elim (below_or_last c i h) [
        | inl q ↦ lasting (with_call set c) t (k c q t n)
        | inr q ↦ (let m = subst (λ (x : ℕ). IsNext p set s x t) q n in rw (q, next_one p set s i t u m is_next) held)
      ]

  pub followed_all : (holds : List Bool → State → Type 0) (set : List Bool) (s : State) (i : ℕ) → i ≡ length p.calls → HoldsBelow p holds set s i → (c : ℕ) (t : State) → IsNext p set s c t → holds (with_call set c) t
  followed_all holds set s i e k c t n = let h = next_within p s t c n.step in k c (omega (arith, e, h)) t n

  pub closed_look : (old new : List Bool → State → Type 0) → ((set : List Bool) (s : State) → new set s → old set s) → ((set : List Bool) (s : State) → old set s → new set s) → IsClosed p old → IsClosed p new
  closed_look old new only lasting k set s h c t n = lasting (with_call set c) t (k set s (only set s h) c t n)

  -- a store that was closed, and has one configuration more, whose calls lead to what is held
  pub closed_more : AreAlike p p → (Fresh : Type 0) (old new : List Bool → State → Type 0) (set : List Bool) (s : State) → ((a : List Bool) (t : State) → new a t → old a t ⊎ (Fresh × (a ≡ set) × (p.same_state t s ≡ true))) → ((a : List Bool) (t : State) → old a t → new a t) → ((a : List Bool) (t u : State) → p.same_state t u ≡ true → new a t → new a u) → ((c : ℕ) (t : State) → IsNext p set s c t → old (with_call set c) t) → IsClosed p old → IsClosed p new
  closed_more alike Fresh old new set s only lasting at_equal follows k a t h c u n =
      elim (only a t h) [
        | inl q ↦ lasting (with_call a c) u (k a t q c u n)
        | inr q ↦ added q.1 q.2
      ]
    where
      added : a ≡ set → p.same_state t s ≡ true → new (with_call a c) u
      added e f =
          let step = alike.there.steps t s u c f n.step in
          let there : IsNext p set s c step.0 = record { outside = rw (← e) n.outside; preceded = λ b before. rw (← e) (n.preceded b before); step = step.1 } in
          rw e (at_equal (with_call set c) step.0 u (alike.equal_states.symm step.0 u ∙ step.2) (lasting (with_call set c) step.0 (follows c step.0 there)))

-- sets of as many flags that have the same calls are equal
same_flags : (a b : List Bool) → length a ≡ length b → ((c : ℕ) → (has a c ≡ true → has b c ≡ true) × (has b c ≡ true → has a c ≡ true)) → a ≡ b
same_flags [] [] e h = refl
same_flags [] (y ∷ b) e h = absurd (omega (arith, e))
same_flags (x ∷ a) [] e h = absurd (omega (arith, e))
same_flags (true ∷ a) (true ∷ b) e h = ap (λ (l : List Bool). true ∷ l) (same_flags a b (omega (arith, e)) (λ c. h (suc c)))
same_flags (false ∷ a) (false ∷ b) e h = ap (λ (l : List Bool). false ∷ l) (same_flags a b (omega (arith, e)) (λ c. h (suc c)))
same_flags (true ∷ a) (false ∷ b) e h = absurd (let q = (h 0).0 refl in cc)
same_flags (false ∷ a) (true ∷ b) e h = absurd (let q = (h 0).1 refl in cc)

module _ {State Op Reply : Type 0} (p : Problem State Op Reply) where
  legal_one : (l : List ℕ) (s t u : State) → Legal p s l t → Legal p s l u → t ≡ u
  legal_one [] s t u a b = sym a ∙ b
  legal_one (c ∷ cs) s t u a b =
      let e = a.1 in let f = b.1 in
      let same : b.0 ≡ a.0 = cc in
      legal_one cs a.0 t u a.2 (subst (λ (x : State). Legal p x cs u) same b.2)

  -- a continuation of what a closed store holds leads to what it holds
  closed_along : (holds : List Bool → State → Type 0) → IsClosed p holds → (l : List ℕ) (set : List Bool) (s : State) → length set ≡ length p.calls → IsContinuation p set s l → holds set s → (t : State) × Legal p s l t × holds (with_calls set l) t
  closed_along holds closed [] set s flags k h = (s, refl, h)
  closed_along holds closed (c ∷ cs) set s flags k h =
      let q = continuation_split p set s c cs flags k in
      let r = closed_along holds closed cs (with_call set c) q.0 (length-set set c true ∙ flags) q.2 (closed set s h c q.0 q.1) in
      (r.0, (q.0, q.1.step, r.1), r.2)

  with_has : (l : List ℕ) (set : List Bool) (d : ℕ) → has (with_calls set l) d ≡ true → (has set d ≡ true) ⊎ In d l
  with_has [] set d h = inl h
  with_has (c ∷ cs) set d h = elim (with_has cs (with_call set c) d h) [
    | inl q ↦ elim (has_with set c d q) [ inl r ↦ inr (inl r) | inr r ↦ inl r ]
    | inr q ↦ inr (inr q)
  ]

  has_kept : (l : List ℕ) (set : List Bool) (s t : State) (d : ℕ) → length set ≡ length p.calls → Legal p s l t → has set d ≡ true → has (with_calls set l) d ≡ true
  has_kept [] set s t d flags k h = h
  has_kept (c ∷ cs) set s t d flags k h =
      let within : c < length set = let n = next_within p s k.0 c k.1 in omega (arith, flags, n) in
      has_kept cs (with_call set c) k.0 t d (length-set set c true ∙ flags) k.2 (has_still set c d within h)

  in_with : (l : List ℕ) (set : List Bool) (s t : State) (d : ℕ) → length set ≡ length p.calls → Legal p s l t → In d l → has (with_calls set l) d ≡ true
  in_with [] set s t d flags k h = absurd h
  in_with (c ∷ cs) set s t d flags k h =
      let within : c < length set = let n = next_within p s k.0 c k.1 in omega (arith, flags, n) in
      elim h [
        | inl q ↦ has_kept cs (with_call set c) k.0 t d (length-set set c true ∙ flags) k.2 (rw q (has_same set c within))
        | inr q ↦ in_with cs (with_call set c) k.0 t d (length-set set c true ∙ flags) k.2 q
      ]

  none_has : (n c : ℕ) → has (replicate n false) c ≡ true → ⊥
  none_has zero c h = cc
  none_has (suc n) zero h = cc
  none_has (suc n) (suc c) h = none_has n c h

  -- a closed store that holds the root holds every reachable configuration
  pub closed_has_all : (holds : List Bool → State → Type 0) → ((a : List Bool) (t u : State) → p.same_state t u ≡ true → holds a t → holds a u) → IsClosed p holds → holds (no_calls p) p.start → (set : List Bool) (s : State) → IsReachable p set s → holds set s
  closed_has_all holds at_equal closed h set s k =
      let run = k.run in
      let none : length (no_calls p) ≡ length p.calls = length-replicate (length p.calls) false in
      let r = closed_along holds closed run.0 (no_calls p) p.start none run.1 h in
      let ends : r.0 ≡ run.3.0 = legal_one run.0 p.start r.0 run.3.0 r.1 run.3.1 in
      let flags : with_calls (no_calls p) run.0 ≡ set =
      same_flags (with_calls (no_calls p) run.0) set (length_calls (no_calls p) run.0 ∙ (none ∙ sym k.flags))
      (λ c. (
        λ e. elim (with_has run.0 (no_calls p) c e) [ inl q ↦ absurd (none_has (length p.calls) c q) | inr q ↦ (run.2 c).1 q ],
        λ e. in_with run.0 (no_calls p) p.start r.0 c none r.1 ((run.2 c).0 e),
      )) in
      at_equal set run.3.0 s run.3.2 (rw (← flags, ← ends) r.2)

-- a store with nothing is closed
pub closed_empty : {State Op Reply : Type 0} (p : Problem State Op Reply) (es : List (Configuration State × Longest)) → es ≡ [] → IsClosed p (Holds p.same_state es)
closed_empty p es e set s h = absurd (rw e at h)

pub was_true : (b : Bool) → not b ≡ false → b ≡ true
was_true true e = refl
was_true false e = sym e
