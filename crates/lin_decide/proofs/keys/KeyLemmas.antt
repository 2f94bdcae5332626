-- The least linearization by keys.
use Rattle.std.proofs.Common.{◌≡◌, ℕ, ◌<◌, ◌==◌, Bool, true, false, cond, List, [], ◌∷◌, ◌++◌, length, ◌⊎◌, inl, inr, refl, sym, ◌∙◌, ap, subst, append_assoc, append-nil, eqb-true, eq-eqb, arith}
use Rattle.lin_history.specs.Problems.Lists.{In, IsDistinct, IsUpTo}
use Rattle.lin_history.specs.Problems.ListLemmas.{apart, has_none, in_late}
use Rattle.lin_history.specs.Problems.Problem.{Problem}
use Rattle.lin_history.specs.Problems.Precedence.{IsCompleted}
use Rattle.lin_history.specs.Problems.Linearizations.{IsLinearization}
use Rattle.lin_history.specs.Locality.OrderLemmas.{KeepsTime}
use Rattle.lin_decide.specs.Keys.Products.{with_key}
use Rattle.lin_decide.specs.Keys.Merging.{IsKeyOrder, IsMerged}
use Rattle.lin_parts.specs.PartLemmas.{three, legal_calls}

module _ (key : ℕ → ℕ) (k : ℕ) where
  pub key_on : (c : ℕ) (l : List ℕ) → key c ≡ k → with_key key k (c ∷ l) ≡ c ∷ with_key key k l
  key_on c l e = rw (eq-eqb (key c) k e) refl

  pub key_off : (c : ℕ) (l : List ℕ) → (key c ≡ k → ⊥) → with_key key k (c ∷ l) ≡ with_key key k l
  key_off c l other = by (key c == k) refl
    where
      by : (b : Bool) → (key c == k) ≡ b → cond b (c ∷ with_key key k l) (with_key key k l) ≡ with_key key k l
      by true e = absurd (other (eqb-true (key c) k e))
      by false e = refl

  pub same_key_or_not : (c : ℕ) → (key c ≡ k) ⊎ (key c ≡ k → ⊥)
  same_key_or_not c = elim (three (key c) k) [
    | inl h ↦ inr (λ e. omega (arith, h, e))
    | inr (inl e) ↦ inl e
    | inr (inr h) ↦ inr (λ e. omega (arith, h, e))
  ]

  pub key_append : (xs ys : List ℕ) → with_key key k (xs ++ ys) ≡ with_key key k xs ++ with_key key k ys
  key_append [] ys = refl
  key_append (x ∷ xs) ys = elim (same_key_or_not x) [
    | inl e ↦ key_on x (xs ++ ys) e ∙ ap (λ (l : List ℕ). x ∷ l) (key_append xs ys) ∙ ap (λ (l : List ℕ). l ++ with_key key k ys) (sym (key_on x xs e))
    | inr n ↦ key_off x (xs ++ ys) n ∙ key_append xs ys ∙ ap (λ (l : List ℕ). l ++ with_key key k ys) (sym (key_off x xs n))
  ]

  pub key_in : (c : ℕ) (l : List ℕ) → In c (with_key key k l) → In c l × (key c ≡ k)
  key_in c [] h = absurd h
  key_in c (x ∷ l) h = elim (same_key_or_not x) [
    | inl e ↦ elim (subst (λ (y : List ℕ). In c y) (key_on x l e) h) [ inl s ↦ (inl s, ap key s ∙ e) | inr more ↦ (let r = key_in c l more in (inr r.0, r.1)) ]
    | inr n ↦ (let r = key_in c l (subst (λ (y : List ℕ). In c y) (key_off x l n) h) in (inr r.0, r.1))
  ]

  pub in_key : (c : ℕ) (l : List ℕ) → In c l → key c ≡ k → In c (with_key key k l)
  in_key c [] h e = absurd h
  in_key c (x ∷ l) h e = elim h [
    | inl s ↦ subst (λ (y : List ℕ). In c y) (sym (key_on x l (ap key (sym s) ∙ e))) (inl s)
    | inr more ↦ elim (same_key_or_not x) [
      | inl f ↦ subst (λ (y : List ℕ). In c y) (sym (key_on x l f)) (inr (in_key c l more e))
      | inr n ↦ subst (λ (y : List ℕ). In c y) (sym (key_off x l n)) (in_key c l more e)
    ]
  ]

  pub key_distinct : (l : List ℕ) → IsDistinct l → IsDistinct (with_key key k l)
  key_distinct [] d = tt
  key_distinct (x ∷ l) d = elim (same_key_or_not x) [
    | inl e ↦ subst (λ (y : List ℕ). IsDistinct y) (sym (key_on x l e)) ((λ h. d.0 (key_in x l h).0), key_distinct l d.1)
    | inr n ↦ subst (λ (y : List ℕ). IsDistinct y) (sym (key_off x l n)) (key_distinct l d.1)
  ]

module _ {State Op Reply : Type 0} (p : Problem State Op Reply) (key : ℕ → ℕ) where
  pub key_time : (k : ℕ) (l : List ℕ) → KeepsTime p l → KeepsTime p (with_key key k l)
  key_time k [] t = tt
  key_time k (x ∷ l) t = elim (same_key_or_not key k x) [
    | inl e ↦ subst (λ (y : List ℕ). KeepsTime p y) (sym (key_on key k x l e)) ((λ d h before. t.0 d (elim h [ inl s ↦ inl s | inr more ↦ inr (key_in key k d l more).0 ]) before), key_time k l t.1)
    | inr n ↦ subst (λ (y : List ℕ). KeepsTime p y) (sym (key_off key k x l n)) (key_time k l t.1)
  ]

  -- ---- the least of the whole

  -- The orders of the keys, merged: no linearization is before it.
  module _ (orders : ℕ → List ℕ) (each : (k : ℕ) → IsKeyOrder p key k (orders k)) (merged_list : List ℕ) (merged : IsMerged p key orders merged_list) (l : List ℕ) (lin : IsLinearization p l) where
    complete : (c : ℕ) → IsCompleted p c → In c l
    complete c done = elim (lin.complete c done) [ inl f ↦ absurd (let none = has_none (length p.calls) c in cc) | inr f ↦ f ]

    -- where the two part, the linearization does not go on with a smaller call
    not_less : (early : List ℕ) (x y : ℕ) (xs ys : List ℕ) → merged_list ≡ early ++ x ∷ xs → l ≡ early ++ y ∷ ys → y < x → ⊥
    not_less early x y xs ys e f less = from (with_key key (key y) (x ∷ xs) ++ (merged.fronts (key y)).0) split
      where
        distinct : IsDistinct (early ++ y ∷ ys)
        distinct = subst (λ (z : List ℕ). IsDistinct z) f lin.continuation.distinct

        in_l : In y l
        in_l = subst (λ (z : List ℕ). In y z) (sym f) (in_late y early (y ∷ ys) (inl refl))

        there : In y (orders (key y))
        there = (each (key y)).there y (legal_calls p l p.start lin.continuation.legal.0 lin.continuation.legal.1 y in_l) refl

        split : orders (key y) ≡ with_key key (key y) early ++ (with_key key (key y) (x ∷ xs) ++ (merged.fronts (key y)).0)
        split = (merged.fronts (key y)).1 ∙ ap (λ (z : List ℕ). with_key key (key y) z ++ (merged.fronts (key y)).0) e ∙ ap (λ (z : List ℕ). z ++ (merged.fronts (key y)).0) (key_append key (key y) early (x ∷ xs)) ∙ append_assoc (with_key key (key y) early) (with_key key (key y) (x ∷ xs)) (merged.fronts (key y)).0

        own : with_key key (key y) l ≡ with_key key (key y) early ++ y ∷ with_key key (key y) ys
        own = ap (with_key key (key y)) f ∙ key_append key (key y) early (y ∷ ys) ∙ ap (λ (z : List ℕ). with_key key (key y) early ++ z) (key_on key (key y) y ys refl)

        from : (rest : List ℕ) → orders (key y) ≡ with_key key (key y) early ++ rest → ⊥
        from [] g = apart y early (y ∷ ys) distinct (key_in key (key y) y early (subst (λ (z : List ℕ). In y z) (g ∙ append-nil (with_key key (key y) early)) there)).0 (inl refl)
        from (h ∷ rest) g =
            let a = merged.least early x xs e (key y) h rest g in
            let b = (each (key y)).least l lin (with_key key (key y) early) h rest y (with_key key (key y) ys) g own in
            omega (arith, a, b, less)

    from_front : (early xs ys : List ℕ) → merged_list ≡ early ++ xs → l ≡ early ++ ys → IsUpTo xs ys
    from_front early [] ys e f = tt
    from_front early (x ∷ xs) [] e f = absurd (merged.ends early x xs e (λ c done. subst (λ (z : List ℕ). In c z) (f ∙ append-nil early) (complete c done)))
    from_front early (x ∷ xs) (y ∷ ys) e f = elim (three x y) [
      | inl less ↦ inl less
      | inr (inl same) ↦ inr (same, from_front (early ++ x ∷ []) xs ys (e ∙ sym (append_assoc early (x ∷ []) xs)) (f ∙ ap (λ (c : ℕ). early ++ c ∷ ys) (sym same) ∙ sym (append_assoc early (x ∷ []) ys)))
      | inr (inr more) ↦ absurd (not_less early x y xs ys e f more)
    ]

    pub merged_least : IsUpTo merged_list l
    merged_least = from_front [] merged_list l refl refl
