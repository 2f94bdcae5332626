-- A continuation that begins with a call, and the one that begins with an identical call in its place.
use Rattle.std.proofs.Common.{◌≡◌, ◌≢◌, ℕ, suc, ◌==◌, Bool, true, false, cond, Some, List, [], ◌∷◌, ◌++◌, length, ◌⊎◌, inl, inr, refl, sym, ◌∙◌, ap, subst, arith, eqb-true, eq-eqb}
use Rattle.lin_history.specs.Problems.Problem.{Problem}
use Rattle.lin_history.specs.Problems.Lists.{In, IsDistinct}
use Rattle.lin_history.specs.Problems.LegalLists.{next, Legal}
use Rattle.lin_history.specs.Problems.Precedence.{Before, IsCompleted}
use Rattle.lin_history.specs.Problems.Continuations.{has, IsContinuation, IsCompletion}
use Rattle.lin_search.specs.CallSetLemmas.{same_or_not}
use Rattle.lin_search.specs.AlikeLemmas.{AreAlike}
use Rattle.lin_search.specs.NeedlessCalls.{exchanged, exchange, StandsFor}

chosen_off : (x y c : ℕ) (d : ℕ) → c ≢ d → cond (c == d) x y ≡ y
chosen_off x y c d other = by (c == d) refl
  where
    by : (b : Bool) → (c == d) ≡ b → cond b x y ≡ y
    by true e = absurd (other (eqb-true c d e))
    by false e = refl

chosen_on : (x y c : ℕ) (d : ℕ) → c ≡ d → cond (c == d) x y ≡ x
chosen_on x y c d e = rw (eq-eqb c d e) refl

module _ (a b : ℕ) where
  pub to_second : exchanged a b a ≡ b
  to_second = chosen_on b _ a a refl

  pub to_first : b ≢ a → exchanged a b b ≡ a
  to_first other = chosen_off b _ b a other ∙ chosen_on a b b b refl

  pub to_itself : (c : ℕ) → c ≢ a → c ≢ b → exchanged a b c ≡ c
  to_itself c na nb = chosen_off b _ c a na ∙ chosen_off a c c b nb

  -- one of the two, or a third
  pub which : (c : ℕ) → (c ≡ a) ⊎ ((c ≡ b) ⊎ ((c ≢ a) × (c ≢ b)))
  which c = elim (same_or_not c a) [
    | inl e ↦ inl e
    | inr n ↦ elim (same_or_not c b) [ inl e ↦ inr (inl e) | inr m ↦ inr (inr (n, m)) ]
  ]

  module _ (apart : b ≢ a) where
    pub twice : (c : ℕ) → exchanged a b (exchanged a b c) ≡ c
    twice c = elim (which c) [
      | inl e ↦ ap (λ (x : ℕ). exchanged a b (exchanged a b x)) e ∙ ap (exchanged a b) to_second ∙ to_first apart ∙ sym e
      | inr (inl e) ↦ ap (λ (x : ℕ). exchanged a b (exchanged a b x)) e ∙ ap (exchanged a b) (to_first apart) ∙ to_second ∙ sym e
      | inr (inr n) ↦ ap (exchanged a b) (to_itself c n.0 n.1) ∙ to_itself c n.0 n.1
    ]

    pub exchange_twice : (l : List ℕ) → exchange a b (exchange a b l) ≡ l
    exchange_twice [] = refl
    exchange_twice (c ∷ cs) = both (exchanged a b (exchanged a b c)) (exchange a b (exchange a b cs)) (twice c) (exchange_twice cs)
      where
        both : (d : ℕ) (ds : List ℕ) → d ≡ c → ds ≡ cs → d ∷ ds ≡ c ∷ cs
        both d ds e f = cc

  pub in_exchange : (c : ℕ) (l : List ℕ) → In c l → In (exchanged a b c) (exchange a b l)
  in_exchange c [] h = absurd h
  in_exchange c (d ∷ l) h = elim h [ inl e ↦ inl (ap (exchanged a b) e) | inr more ↦ inr (in_exchange c l more) ]

  pub exchange_in : b ≢ a → (c : ℕ) (l : List ℕ) → In c (exchange a b l) → In (exchanged a b c) l
  exchange_in apart c l h = subst (λ (x : List ℕ). In (exchanged a b c) x) (exchange_twice apart l) (in_exchange c (exchange a b l) h)

  pub exchange_append : (xs ys : List ℕ) → exchange a b (xs ++ ys) ≡ exchange a b xs ++ exchange a b ys
  exchange_append [] ys = refl
  exchange_append (x ∷ xs) ys = ap (λ (l : List ℕ). exchanged a b x ∷ l) (exchange_append xs ys)

  pub exchange_length : (l : List ℕ) → length (exchange a b l) ≡ length l
  exchange_length [] = refl
  exchange_length (x ∷ xs) = ap suc (exchange_length xs)

  pub exchange_distinct : b ≢ a → (l : List ℕ) → IsDistinct l → IsDistinct (exchange a b l)
  exchange_distinct apart [] d = tt
  exchange_distinct apart (x ∷ xs) d = (
    λ h. d.0 (subst (λ (y : ℕ). In y xs) (twice apart x) (exchange_in apart (exchanged a b x) xs h)),
    exchange_distinct apart xs d.1,
  )

module _ {State Op Reply : Type 0} (p : Problem State Op Reply) (alike : AreAlike p p) where
  pub chain : (s t u : State) → p.same_state s t ≡ true → p.same_state t u ≡ true → p.same_state s u ≡ true
  chain s t u e f = alike.equal_states.congr s t u e ∙ f

  module _ (set : List Bool) (s : State) (a b : ℕ) (stands : StandsFor p set s a b) where
    apart : b ≢ a
    apart e = let h = stands.less in omega (arith, h, e)

    -- a step of a call that is not b, and one of the other of the two
    step_exchanged : (c : ℕ) (u v m : State) → c ≢ b → p.same_state u v ≡ true → next p u c ≡ Some m → (w : State) × (next p v (exchanged a b c) ≡ Some w) × (p.same_state m w ≡ true)
    step_exchanged c u v m not_b same e =
        let moved = alike.there.steps u v m c same e in
        elim (same_or_not c a) [
          | inl q ↦ (
              let r = stands.later v moved.0 (subst (λ (x : ℕ). next p v x ≡ Some moved.0) q moved.1) in
              let is : exchanged a b c ≡ b = ap (exchanged a b) q ∙ to_second a b in
              (r.0, subst (λ (x : ℕ). next p v x ≡ Some r.0) (sym is) r.1, chain m moved.0 r.0 moved.2 r.2)
              )
          | inr n ↦ (moved.0, subst (λ (x : ℕ). next p v x ≡ Some moved.0) (sym (to_itself a b c n not_b)) moved.1, moved.2)
        ]

    legal_exchanged : (l : List ℕ) (u v e : State) → (In b l → ⊥) → p.same_state u v ≡ true → Legal p u l e → (f : State) × Legal p v (exchange a b l) f
    legal_exchanged [] u v e without same k = (v, refl)
    legal_exchanged (c ∷ cs) u v e without same k =
        let n = step_exchanged c u v k.0 (λ q. without (inl (sym q))) same k.1 in
        let r = legal_exchanged cs k.0 n.0 e (λ h. without (inr h)) n.2 k.2 in
        (r.0, (n.0, n.1, r.1))

    module _ (cs : List ℕ) (k : IsContinuation p set s (b ∷ cs)) where
      exchanged_distinct : IsDistinct (a ∷ exchange a b cs)
      exchanged_distinct = subst (λ (x : ℕ). IsDistinct (x ∷ exchange a b cs)) (to_first a b apart) (exchange_distinct a b apart (b ∷ cs) k.distinct)

      exchanged_outside : (c : ℕ) → In c (a ∷ exchange a b cs) → has set c ≡ false
      exchanged_outside c h = elim (which a b c) [
        | inl e ↦ subst (λ (x : ℕ). has set x ≡ false) (sym e) stands.free
        | inr (inl e) ↦ subst (λ (x : ℕ). has set x ≡ false) (sym e) (k.outside b (inl refl))
        | inr (inr n) ↦ elim h [
          | inl e ↦ absurd (n.0 e)
          | inr more ↦ k.outside c (inr (subst (λ (x : ℕ). In x cs) (to_itself a b c n.0 n.1) (exchange_in a b apart c cs more)))
        ]
      ]

      exchanged_legal : (t : State) × Legal p s (a ∷ exchange a b cs) t
      exchanged_legal =
          let first = stands.first k.legal.1.0 k.legal.1.1 in
          let rest = legal_exchanged cs k.legal.1.0 first.0 k.legal.0 k.distinct.0 first.2 k.legal.1.2 in
          (rest.0, (first.0, first.1, rest.1))

      -- what precedes b is in the set
      minimal : (c : ℕ) → Before p c b → has set c ≡ true
      minimal c before = elim (k.ordered [] b cs refl c before) [ inl h ↦ h | inr h ↦ absurd h ]

      module _ (rest : List ℕ) (d : ℕ) (late : List ℕ) (e : exchange a b cs ≡ rest ++ d ∷ late) where
        back : cs ≡ exchange a b rest ++ exchanged a b d ∷ exchange a b late
        back = sym (exchange_twice a b apart cs) ∙ ap (exchange a b) e ∙ exchange_append a b rest (d ∷ late)

        -- of a third call
        third_ordered : d ≢ a → d ≢ b → (c : ℕ) → Before p c d → (has set c ≡ true) ⊎ In c (a ∷ rest)
        third_ordered na nb c before =
            elim (which a b c) [
              | inl q ↦ inr (inl q)
              | inr (inl q) ↦ elim (there a (stands.precedes d (subst (λ (x : ℕ). Before p x d) q before))) [
                | inl h ↦ absurd (let f = stands.free in cc)
                | inr (inl h) ↦ absurd (apart (sym h))
                | inr (inr h) ↦ inr (inr (subst (λ (x : ℕ). In x rest) (to_second a b ∙ sym q) (exchange_in a b apart a rest h)))
              ]
              | inr (inr n) ↦ elim (there c before) [
                | inl h ↦ inl h
                | inr (inl h) ↦ absurd (n.1 h)
                | inr (inr h) ↦ inr (inr (subst (λ (x : ℕ). In x rest) (to_itself a b c n.0 n.1) (exchange_in a b apart c rest h)))
              ]
            ]
          where
            place : b ∷ cs ≡ (b ∷ exchange a b rest) ++ d ∷ exchange a b late
            place = ap (λ (l : List ℕ). b ∷ l) (back ∙ ap (λ (x : ℕ). exchange a b rest ++ x ∷ exchange a b late) (to_itself a b d na nb))

            there : (x : ℕ) → Before p x d → (has set x ≡ true) ⊎ In x (b ∷ exchange a b rest)
            there x h = k.ordered (b ∷ exchange a b rest) d (exchange a b late) place x h

        rest_ordered : (c : ℕ) → Before p c d → (has set c ≡ true) ⊎ In c (a ∷ rest)
        rest_ordered c before = elim (which a b d) [
          | inl q ↦ inl (minimal c (stands.preceded c (subst (λ (x : ℕ). Before p c x) q before)))
          | inr (inl q) ↦ inl (minimal c (subst (λ (x : ℕ). Before p c x) q before))
          | inr (inr n) ↦ third_ordered n.0 n.1 c before
        ]

      exchanged_ordered : (early : List ℕ) (d : ℕ) (late : List ℕ) → a ∷ exchange a b cs ≡ early ++ d ∷ late → (c : ℕ) → Before p c d → (has set c ≡ true) ⊎ In c early
      exchanged_ordered [] d late e c before = inl (minimal c (stands.preceded c (let q : d ≡ a = cc in subst (λ (x : ℕ). Before p c x) q before)))
      exchanged_ordered (x ∷ rest) d late e c before =
          let head : a ≡ x = cc in
          let tail : exchange a b cs ≡ rest ++ d ∷ late = cc in
          subst (λ (y : ℕ). (has set c ≡ true) ⊎ In c (y ∷ rest)) head (rest_ordered rest d late tail c before)

      -- the continuation with a in the place of b, and b in that of a
      pub exchanged_continues : IsContinuation p set s (a ∷ exchange a b cs)
      exchanged_continues = record {
        distinct = exchanged_distinct;
        outside = exchanged_outside;
        legal = exchanged_legal;
        ordered = exchanged_ordered;
      }

    -- and a completion, where it was one
    pub exchanged_completes : (cs : List ℕ) → IsCompletion p set s (b ∷ cs) → IsCompletion p set s (a ∷ exchange a b cs)
    exchanged_completes cs k = record {
      continuation = exchanged_continues cs k.continuation;
      complete = λ c done. elim (which a b c) [
        | inl e ↦ inr (inl e)
        | inr (inl e) ↦ inr (inr (second c e done))
        | inr (inr n) ↦ elim (k.complete c done) [
          | inl h ↦ inl h
          | inr (inl h) ↦ absurd (n.1 h)
          | inr (inr h) ↦ inr (inr (subst (λ (x : ℕ). In x (exchange a b cs)) (to_itself a b c n.0 n.1) (in_exchange a b c cs h)))
        ]
      ];
    }
      where
        second : (c : ℕ) → c ≡ b → IsCompleted p c → In c (exchange a b cs)
        second c e done =
            elim (k.complete a (stands.completed (subst (λ (x : ℕ). IsCompleted p x) e done))) [
              | inl h ↦ absurd (let f = stands.free in cc)
              | inr (inl h) ↦ absurd (apart (sym h))
              | inr (inr h) ↦ subst (λ (x : ℕ). In x (exchange a b cs)) (to_second a b ∙ sym e) (in_exchange a b a cs h)
            ]
