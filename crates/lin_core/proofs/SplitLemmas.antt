-- A list of calls, split right behind the last one that was over.
use Rattle.std.proofs.Common.{◌≡◌, ℕ, Bool, true, false, List, [], ◌∷◌, ◌++◌, ◌⊎◌, inl, inr, refl, ap, subst}
use Rattle.lin_history.specs.Problems.Lists.{In}
use Rattle.lin_history.specs.Problems.Problem.{Problem}
use Rattle.lin_history.specs.Problems.LegalLists.{next, Legal}
use Rattle.lin_history.specs.Problems.Precedence.{Before}
use Rattle.lin_history.specs.Locality.OrderLemmas.{KeepsTime}

module _ {State Op Reply : Type 0} (p : Problem State Op Reply) where
  -- a legal list in two parts
  pub legal_split : (early late : List ℕ) (s t : State) → Legal p s (early ++ late) t → (m : State) × Legal p s early m × Legal p m late t
  legal_split [] late s t k = (s, refl, k)
  legal_split (c ∷ early) late s t k = let r = legal_split early late k.0 t k.2 in (r.0, (k.0, k.1, r.1), r.2)

  pub keeps_late : (early late : List ℕ) → KeepsTime p (early ++ late) → KeepsTime p late
  keeps_late [] late k = k
  keeps_late (x ∷ xs) late k = keeps_late xs late k.1

  module _ (over : ℕ → Bool) where
    -- none of the late calls is over; and no early one comes behind all that are over
    pub record IsSplit (l early late : List ℕ) : Type 0 where
      pub is : l ≡ early ++ late
      pub none : (c : ℕ) → In c late → over c ≡ false
      pub front : (c : ℕ) → In c early → ((z : ℕ) → over z ≡ true → Before p z c) → ⊥
      pub some : (early ≡ []) ⊎ ((z : ℕ) × In z early × (over z ≡ true))

    longer : (c : ℕ) (l early late : List ℕ) → KeepsTime p (c ∷ l) → IsSplit l early late → (z : ℕ) → In z early → over z ≡ true → IsSplit (c ∷ l) (c ∷ early) late
    longer c l early late time k z there is = record {
      is = ap (λ (x : List ℕ). c ∷ x) k.is;
      none = k.none;
      front = λ d h behind. elim h [
        | inl e ↦ time.0 z (inr (subst (λ (x : List ℕ). In z x) (sym_is k.is) (in_front z early late there))) (subst (λ (x : ℕ). Before p z x) e (behind z is))
        | inr more ↦ k.front d more behind
      ];
      some = inr (z, inr there, is);
    }
      where
        in_front : (b : ℕ) (xs ys : List ℕ) → In b xs → In b (xs ++ ys)
        in_front b [] ys h = absurd h
        in_front b (x ∷ xs) ys h = elim h [ inl e ↦ inl e | inr more ↦ inr (in_front b xs ys more) ]

        sym_is : {xs ys : List ℕ} → xs ≡ ys → ys ≡ xs
        sym_is e = cc

    begun : (c : ℕ) (l late : List ℕ) → KeepsTime p (c ∷ l) → IsSplit l [] late → (b : Bool) → over c ≡ b → (early : List ℕ) × (rest : List ℕ) × IsSplit (c ∷ l) early rest
    begun c l late time k true is = (
      c ∷ [],
      late,
      record {
        is = ap (λ (x : List ℕ). c ∷ x) k.is;
        none = k.none;
        front = λ d h behind. elim h [
          | inl e ↦ time.0 c (inl refl) (subst (λ (x : ℕ). Before p c x) e (behind c is))
          | inr more ↦ more
        ];
        some = inr (c, inl refl, is);
      },
    )
    begun c l late time k false is = (
      [],
      c ∷ late,
      record {
        is = ap (λ (x : List ℕ). c ∷ x) k.is;
        none = λ d h. elim h [ inl e ↦ subst (λ (x : ℕ). over x ≡ false) (back e) is | inr more ↦ k.none d more ];
        front = λ d h behind. h;
        some = inl refl;
      },
    )
      where
        back : {a b : ℕ} → a ≡ b → b ≡ a
        back e = cc

    pub split : (l : List ℕ) → KeepsTime p l → (early : List ℕ) × (late : List ℕ) × IsSplit l early late
    split [] time = ([], [], record { is = refl; none = λ c h. absurd h; front = λ c h behind. h; some = inl refl })
    split (c ∷ l) time =
        let r = split l time.1 in
        elim r.2.some [
          | inl none ↦ begun c l r.1 time (subst (λ (x : List ℕ). IsSplit l x r.1) none r.2) (over c) refl
          | inr some ↦ (c ∷ r.0, r.1, longer c l r.0 r.1 time r.2 some.0 some.1 some.2)
        ]
