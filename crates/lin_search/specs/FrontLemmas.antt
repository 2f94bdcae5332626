-- A call that changes nothing, moved to the front of a continuation, or put there.
use Rattle.std.proofs.Common.{◌≡◌, ◌≢◌, ℕ, suc, ◌<◌, ◌≤◌, ◌+◌, ◌==◌, Bool, true, false, cond, Option, Some, List, [], ◌∷◌, ◌++◌, length, ◌⊎◌, inl, inr, refl, sym, ◌∙◌, ap, subst, arith, eqb-true, eq-eqb}
use Rattle.lin_history.specs.Problems.Problem.{Problem}
use Rattle.lin_history.specs.Problems.Lists.{In, IsDistinct, IsLongest}
use Rattle.lin_history.specs.Problems.LegalLists.{next, Legal}
use Rattle.lin_history.specs.Problems.Precedence.{Before}
use Rattle.lin_history.specs.Problems.Continuations.{has, IsContinuation, IsCompletion}
use Rattle.lin_search.specs.CallSet.{with_call}
use Rattle.lin_search.specs.CallSetLemmas.{same_or_not}
use Rattle.lin_search.specs.AlikeLemmas.{AreAlike}
use Rattle.lin_search.specs.NextCall.{IsNext}
use Rattle.lin_search.specs.FirstCallLemmas.{no_part, tail_continues, tail_completes}
use Rattle.lin_search.specs.Progress.{IsSearchedTo}
use Rattle.lin_search.specs.NeedlessCalls.{without, LeavesStates}
use Rattle.lin_search.specs.ExchangeLemmas.{chain}
use Rattle.lin_search.specs.AsWellLemmas.{searched_as_well}

module _ (r : ℕ) where
  leaves_out : (c : ℕ) (cs : List ℕ) → c ≡ r → without r (c ∷ cs) ≡ without r cs
  leaves_out c cs e = rw (eq-eqb c r e) refl

  keeps : (c : ℕ) (cs : List ℕ) → c ≢ r → without r (c ∷ cs) ≡ c ∷ without r cs
  keeps c cs other = by (c == r) refl
    where
      by : (b : Bool) → (c == r) ≡ b → cond b (without r cs) (c ∷ without r cs) ≡ c ∷ without r cs
      by true e = absurd (other (eqb-true c r e))
      by false e = refl

  pub without_in : (c : ℕ) (l : List ℕ) → In c (without r l) → In c l × (c ≢ r)
  without_in c [] h = absurd h
  without_in c (d ∷ l) h = elim (same_or_not d r) [
    | inl e ↦ (let k = without_in c l (subst (λ (x : List ℕ). In c x) (leaves_out d l e) h) in (inr k.0, k.1))
    | inr n ↦ elim (subst (λ (x : List ℕ). In c x) (keeps d l n) h) [
      | inl e ↦ (inl e, λ q. n (sym e ∙ q))
      | inr more ↦ (let k = without_in c l more in (inr k.0, k.1))
    ]
  ]

  pub in_without : (c : ℕ) (l : List ℕ) → In c l → c ≢ r → In c (without r l)
  in_without c [] h n = absurd h
  in_without c (d ∷ l) h n = elim (same_or_not d r) [
    | inl e ↦ subst (λ (x : List ℕ). In c x) (sym (leaves_out d l e)) (elim h [ inl q ↦ absurd (n (q ∙ e)) | inr more ↦ in_without c l more n ])
    | inr m ↦ subst (λ (x : List ℕ). In c x) (sym (keeps d l m)) (elim h [ inl q ↦ inl q | inr more ↦ inr (in_without c l more n) ])
  ]

  pub without_distinct : (l : List ℕ) → IsDistinct l → IsDistinct (without r l)
  without_distinct [] d = tt
  without_distinct (c ∷ l) d = elim (same_or_not c r) [
    | inl e ↦ subst IsDistinct (sym (leaves_out c l e)) (without_distinct l d.1)
    | inr n ↦ subst IsDistinct (sym (keeps c l n)) ((λ h. d.0 (without_in c l h).0), without_distinct l d.1)
  ]

  without_none : (l : List ℕ) → (In r l → ⊥) → without r l ≡ l
  without_none [] h = refl
  without_none (c ∷ l) h = keeps c l (λ e. h (inl (sym e))) ∙ ap (λ (x : List ℕ). c ∷ x) (without_none l (λ k. h (inr k)))

  pub without_length : (l : List ℕ) → IsDistinct l → length l ≤ length (without r l) + 1
  without_length [] d = omega arith
  without_length (c ∷ l) d = elim (same_or_not c r) [
    | inl e ↦ (
        let same : length (without r (c ∷ l)) ≡ length l = ap length (leaves_out c l e ∙ without_none l (λ h. d.0 (subst (λ (x : ℕ). In x l) (sym e) h))) in
        omega (arith, same)
        )
    | inr n ↦ (let k = without_length l d.1 in let same : length (without r (c ∷ l)) ≡ suc (length (without r l)) = ap length (keeps c l n) in omega (arith, same, k))
  ]

  -- a place in the list without the call, in the list itself
  pub place_of : (l rest : List ℕ) (d : ℕ) (late : List ℕ) → without r l ≡ rest ++ d ∷ late → (early : List ℕ) × (more : List ℕ) × (l ≡ early ++ d ∷ more) × ((x : ℕ) → In x early → (x ≡ r) ⊎ In x rest)
  place_of [] rest d late e = absurd (no_part rest d late e)
  place_of (c ∷ l) rest d late e = elim (same_or_not c r) [
    | inl q ↦ (
        let k = place_of l rest d late (sym (leaves_out c l q) ∙ e) in
        (c ∷ k.0, k.1, ap (λ (x : List ℕ). c ∷ x) k.2, λ x h. elim h [ inl s ↦ inl (s ∙ q) | inr more ↦ k.3 x more ])
        )
    | inr n ↦ kept (λ ys f. place_of l ys d late f) rest (sym (keeps c l n) ∙ e)
  ]
    where
      kept : ((ys : List ℕ) → without r l ≡ ys ++ d ∷ late → (early : List ℕ) × (more : List ℕ) × (l ≡ early ++ d ∷ more) × ((x : ℕ) → In x early → (x ≡ r) ⊎ In x ys)) → (front : List ℕ) → c ∷ without r l ≡ front ++ d ∷ late → (early : List ℕ) × (more : List ℕ) × (c ∷ l ≡ early ++ d ∷ more) × ((x : ℕ) → In x early → (x ≡ r) ⊎ In x front)
      kept again [] f = ([], l, (let q : c ≡ d = cc in ap (λ (x : ℕ). x ∷ l) q), λ x h. absurd h)
      kept again (y ∷ ys) f =
          let head : c ≡ y = cc in
          let tail : without r l ≡ ys ++ d ∷ late = cc in
          let k = again ys tail in (
            c ∷ k.0,
            k.1,
            ap (λ (x : List ℕ). c ∷ x) k.2,
            λ x h. elim h [
              | inl s ↦ inr (inl (s ∙ head))
              | inr more ↦ elim (k.3 x more) [ inl s ↦ inl s | inr s ↦ inr (inr s) ]
            ],
          )

module _ {State Op Reply : Type 0} (p : Problem State Op Reply) (alike : AreAlike p p) (r : ℕ) (leaves : LeavesStates p r) where
  turn : (s t : State) → p.same_state s t ≡ true → p.same_state t s ≡ true
  turn s t e = sym (alike.equal_states.symm s t) ∙ e

  legal_without : (l : List ℕ) (u v e : State) → p.same_state u v ≡ true → Legal p u l e → (f : State) × Legal p v (without r l) f
  legal_without [] u v e same k = (v, refl)
  legal_without (c ∷ cs) u v e same k = elim (same_or_not c r) [
    | inl q ↦ (
        let still = leaves u k.0 (subst (λ (x : ℕ). next p u x ≡ Some k.0) q k.1) in
        let n = legal_without cs k.0 v e (chain p alike k.0 u v (turn u k.0 still) same) k.2 in
        (n.0, subst (λ (x : List ℕ). Legal p v x n.0) (sym (leaves_out r c cs q)) n.1)
        )
    | inr q ↦ (
        let m = alike.there.steps u v k.0 c same k.1 in
        let n = legal_without cs k.0 m.0 e m.2 k.2 in
        let legal : Legal p v (c ∷ without r cs) n.0 = (m.0, m.1, n.1) in
        (n.0, subst (λ (x : List ℕ). Legal p v x n.0) (sym (keeps r c cs q)) legal)
        )
  ]

  module _ (set : List Bool) (s t : State) (is_next : IsNext p set s r t) where
    front_ordered : (l : List ℕ) → IsContinuation p set s l → (early : List ℕ) (d : ℕ) (late : List ℕ) → r ∷ without r l ≡ early ++ d ∷ late → (c : ℕ) → Before p c d → (has set c ≡ true) ⊎ In c early
    front_ordered l k [] d late e c before = inl (is_next.preceded c (let q : d ≡ r = cc in subst (λ (x : ℕ). Before p c x) q before))
    front_ordered l k (y ∷ rest) d late e c before =
        let head : r ≡ y = cc in
        let tail : without r l ≡ rest ++ d ∷ late = cc in
        let place = place_of r l rest d late tail in
        elim (k.ordered place.0 d place.1 place.2 c before) [
          | inl h ↦ inl h
          | inr h ↦ elim (place.3 c h) [ inl q ↦ inr (inl (q ∙ head)) | inr q ↦ inr (inr q) ]
        ]

    pub front_continues : (l : List ℕ) → IsContinuation p set s l → IsContinuation p set s (r ∷ without r l)
    front_continues l k = record {
      distinct = ((λ h. (without_in r r l h).1 refl), without_distinct r l k.distinct);
      outside = λ c h. elim h [ inl e ↦ subst (λ (x : ℕ). has set x ≡ false) (sym e) is_next.outside | inr more ↦ k.outside c (without_in r c l more).0 ];
      legal = (let n = legal_without l s t k.legal.0 (leaves s t is_next.step) k.legal.1 in (n.0, (t, is_next.step, n.1)));
      ordered = front_ordered l k;
    }

    pub front_completes : (l : List ℕ) → IsCompletion p set s l → IsCompletion p set s (r ∷ without r l)
    front_completes l k = record {
      continuation = front_continues l k.continuation;
      complete = λ c done. elim (k.complete c done) [
        | inl h ↦ inl h
        | inr h ↦ elim (same_or_not c r) [ inl e ↦ inr (inl e) | inr n ↦ inr (inr (in_without r c l h n)) ]
      ];
    }

    -- N: where the configuration that it leads to has no completion, there is none here
    pub none_either : length set ≡ length p.calls → ((l : List ℕ) → IsCompletion p (with_call set r) t l → ⊥) → (l : List ℕ) → IsCompletion p set s l → ⊥
    none_either flags none l k = none (without r l) (tail_completes p set s r t flags is_next (without r l) (front_completes l k))

    -- and no continuation here is longer by more than one
    pub longer_by_one : length set ≡ length p.calls → (more : ℕ) (first : Option ℕ) → IsLongest (IsContinuation p (with_call set r) t) more first → (l : List ℕ) → IsContinuation p set s l → length l ≤ more + 1
    longer_by_one flags more first deep l k =
        let n = deep.greatest (without r l) (tail_continues p set s r t flags is_next (without r l) (front_continues l k)) in
        let m = without_length r l k.distinct in
        omega (arith, n, m)

    -- After a call that changes nothing no further one need be tried.
    pub searched_after : (i j more : ℕ) (first : Option ℕ) → r < i → i ≤ j → IsSearchedTo p set s i more first → IsSearchedTo p set s j more first
    searched_after i j more first tried up searched =
        searched_as_well p set s i j more first up searched (λ c cs low high k. record {
          list = r ∷ without r (c ∷ cs);
          continues = front_continues (c ∷ cs) k;
          completes = λ whole. front_completes (c ∷ cs) whole;
          below = tried;
          length = (let n = without_length r (c ∷ cs) k.distinct in omega (arith, n));
        })
