-- Lists of configurations: which is longer, how many there can be, and what the pairs of a store count.
use Rattle.std.proofs.Common.{◌≡◌, ℕ, suc, ◌≤◌, Bool, true, List, [], ◌∷◌, length, ◌⊎◌, inl, inr, refl, sym, ◌∙◌, ap, arith}
use Rattle.std.specs.Cmp.{IsEquivalence}
use Rattle.lin_history.specs.Problems.Problem.{Problem}
use Rattle.lin_history.specs.Problems.Configurations.{IsReachable}
use Rattle.lin_search.specs.declared.longest.Longest.{Longest}
use Rattle.lin_search.specs.Configuration.{Configuration}
use Rattle.lin_search.specs.Count.{Among, AllApart, AllReachable, IsNumberReachable, HasReachable}
use Rattle.lin_search.specs.Store.{configurations, Holds, AllRefuted, IsStore}

module _ {State : Type 0} (same : State → State → Bool) (equal : IsEquivalence same) where
  pub among_equal : (xs : List (Configuration State)) (a b : List Bool) (s t : State) → a ≡ b → same s t ≡ true → Among same xs a s → Among same xs b t
  among_equal [] a b s t e f h = absurd h
  among_equal (x ∷ xs) a b s t e f h = elim h [
    | inl q ↦ inl (sym e ∙ q.0, sym (equal.congr s t x.state f) ∙ q.1)
    | inr q ↦ inr (among_equal xs a b s t e f q)
  ]

  -- the list without what is the same as a configuration of it: one shorter, with all that differ from that one
  taken : (ys : List (Configuration State)) (set : List Bool) (s : State) → Among same ys set s → (zs : List (Configuration State)) × (suc (length zs) ≡ length ys) × ((a : List Bool) (t : State) → Among same ys a t → (Among same zs a t) ⊎ ((a ≡ set) × (same t s ≡ true)))
  taken [] set s h = absurd h
  taken (y ∷ ys) set s h = elim h [
    | inl q ↦ (
      ys,
      refl,
      λ a t k. elim k [
        | inl r ↦ inr (r.0 ∙ sym q.0, equal.congr t y.state s r.1 ∙ (equal.symm y.state s ∙ q.1))
        | inr r ↦ inl r
      ],
    )
    | inr q ↦ (let rest = taken ys set s q in (
      y ∷ rest.0,
      ap suc rest.1,
      λ a t k. elim k [
        | inl r ↦ inl (inl r)
        | inr r ↦ elim (rest.2 a t r) [ inl u ↦ inl (inr u) | inr u ↦ inr u ]
      ],
    ))
  ]

  -- of two lists of configurations, one that has none twice and only what the other has is no longer
  pub no_longer : (xs ys : List (Configuration State)) → AllApart same xs → ((a : List Bool) (t : State) → Among same xs a t → Among same ys a t) → length xs ≤ length ys
  no_longer [] ys apart k = omega arith
  no_longer (x ∷ xs) ys apart k =
      let q = taken ys x.lifted x.state (k x.lifted x.state (inl (refl, equal.refl x.state))) in
      let rest = no_longer xs q.0 apart.1 (λ a t h. elim (q.2 a t (k a t (inr h))) [
        | inl r ↦ r
        | inr r ↦ absurd (apart.0 (among_equal xs a x.lifted t x.state r.0 r.1 h))
      ]) in
      let n = q.1 in
      omega (arith, rest, n)

module _ {State Op Reply : Type 0} (p : Problem State Op Reply) (equal : IsEquivalence p.same_state) (itself : (set : List Bool) (s t : State) → p.same_state s t ≡ true → IsReachable p set s → IsReachable p set t) where
  pub among_reachable : (xs : List (Configuration State)) → AllReachable p xs → (a : List Bool) (t : State) → Among p.same_state xs a t → IsReachable p a t
  among_reachable [] all a t h = absurd h
  among_reachable (x ∷ xs) all a t h = elim h [
    | inl q ↦ rw (q.0) (itself x.lifted x.state t (equal.symm x.state t ∙ q.1) all.0)
    | inr q ↦ among_reachable xs all.1 a t q
  ]

  -- where there are m or more, and n is the number, m is at most n
  pub number_at_most : (m n : ℕ) → HasReachable p m → IsNumberReachable p n → m ≤ n
  number_at_most m n h k =
      let less = no_longer p.same_state equal h.0 k.0 h.1.apart (λ a t q. k.2 a t (among_reachable h.0 h.1.reachable a t q)) in
      let e = h.2 in let f = k.3 in omega (arith, less, e, f)

module _ {State Op Reply : Type 0} (p : Problem State Op Reply) where
  pub stored_reachable : (es : List (Configuration State × Longest)) → AllRefuted p es → AllReachable p (configurations es)
  stored_reachable [] all = tt
  stored_reachable (e ∷ es) all = (all.0.refuted.reachable, stored_reachable es all.1)

  pub stored_count : (es : List (Configuration State × Longest)) → length (configurations es) ≡ length es
  stored_count [] = refl
  stored_count (e ∷ es) = ap suc (stored_count es)

  -- the pairs of a store are so many reachable configurations
  pub has_stored : (es : List (Configuration State × Longest)) (n : ℕ) → IsStore p es → n ≡ length es → HasReachable p n
  has_stored es n k e = (configurations es, record { apart = k.apart; reachable = stored_reachable es k.refuted }, stored_count es ∙ sym e)

  -- and they are all, where each is held
  pub number_stored : (es : List (Configuration State × Longest)) (n : ℕ) → IsStore p es → n ≡ length es → ((set : List Bool) (s : State) → IsReachable p set s → Holds p.same_state es set s) → IsNumberReachable p n
  number_stored es n k e all = (configurations es, record { apart = k.apart; reachable = stored_reachable es k.refuted }, all, stored_count es ∙ sym e)
