-- A run of a queue or a stack without some calls that took an item or found none, and without the calls that put those items in.
use Rattle.std.proofs.Common.{◌≡◌, ℕ, Some, List, [], ◌∷◌, ◌++◌, ◌⊎◌, inl, inr, refl, sym, ◌∙◌, ap, subst, append_assoc}
use Rattle.std.specs.Prelude.{ℤ}
use Rattle.lin_object.specs.declared.op.Op.{Op}
use Rattle.lin_object.specs.declared.reply.Reply.{Reply}
use Rattle.lin_object.specs.declared.state.ObjState.{ObjState}
use Rattle.lin_history.specs.Problems.Problem.{Problem}
use Rattle.lin_history.specs.Problems.Lists.{In, IsDistinct}
use Rattle.lin_history.specs.Problems.ListLemmas.{in_early, in_late, in_either, in_place}
use Rattle.lin_history.specs.Problems.LegalLists.{Legal}
use Rattle.lin_history.specs.Locality.OrderLemmas.{KeepsTime}
use Rattle.lin_laws.specs.Items.{AddsItem}
use Rattle.lin_prefixes.proofs.ItemStepLemmas.{HoldsItems}
use Rattle.lin_prefixes.proofs.LackLemmas.{in_or_not}
use Rattle.lin_prefixes.specs.Freed.{IsFreed, TookOut}

-- what stands in a list stands in it with one call more
pub in_with : (a x : ℕ) (xs ys : List ℕ) → In a (xs ++ ys) → In a (xs ++ x ∷ ys)
in_with a x xs ys h = elim (in_either a xs ys h) [ inl k ↦ in_early a xs (x ∷ ys) k | inr k ↦ in_late a xs (x ∷ ys) (inr k) ]

-- and without it, or is it
pub in_without : (a x : ℕ) (xs ys : List ℕ) → In a (xs ++ x ∷ ys) → In a (xs ++ ys) ⊎ (a ≡ x)
in_without a x xs ys h = elim (in_either a xs (x ∷ ys) h) [ inl k ↦ inl (in_early a xs ys k) | inr (inl e) ↦ inr e | inr (inr k) ↦ inl (in_late a xs ys k) ]

pub distinct_without : (x : ℕ) (xs ys : List ℕ) → IsDistinct (xs ++ x ∷ ys) → IsDistinct (xs ++ ys) × (In x (xs ++ ys) → ⊥)
distinct_without x [] ys d = (d.1, d.0)
distinct_without x (z ∷ xs) ys d =
    let more = distinct_without x xs ys d.1 in
    (((λ h. d.0 (in_with z x xs ys h)), more.0), λ h. elim h [ inl e ↦ d.0 (subst (λ (c : ℕ). In c (xs ++ x ∷ ys)) e (in_late x xs (x ∷ ys) (inl refl))) | inr k ↦ more.1 k ])

-- The list has the calls of the run in their order, but for some that are freed.
pub record IsThinned (p : Problem ObjState Op Reply) (takers : List ℕ) (r l : List ℕ) : Type 0 where
  pub distinct : IsDistinct l
  pub inside : (b : ℕ) → In b l → In b r
  pub left : (b : ℕ) → In b r → In b l ⊎ IsFreed p takers b
  pub time : KeepsTime p l

module _ (p : Problem ObjState Op Reply) (takers r : List ℕ) where
  keeps_without : (xs : List ℕ) (x : ℕ) (ys : List ℕ) → KeepsTime p (xs ++ x ∷ ys) → KeepsTime p (xs ++ ys)
  keeps_without [] x ys k = k.1
  keeps_without (z ∷ xs) x ys k = ((λ d h. k.0 d (elim h [ inl e ↦ inl e | inr more ↦ inr (in_with d x xs ys more) ])), keeps_without xs x ys k.1)

  -- one freed call less
  thinned_without : (xs : List ℕ) (x : ℕ) (ys : List ℕ) → IsFreed p takers x → IsThinned p takers r (xs ++ x ∷ ys) → IsThinned p takers r (xs ++ ys)
  thinned_without xs x ys freed k = record {
    distinct = (distinct_without x xs ys k.distinct).0;
    inside = λ b h. k.inside b (in_with b x xs ys h);
    left = λ b h. elim (k.left b h) [
      | inl there ↦ elim (in_without b x xs ys there) [ inl still ↦ inl still | inr e ↦ inr (subst (λ (c : ℕ). IsFreed p takers c) (sym e) freed) ]
      | inr out ↦ inr out
    ];
    time = keeps_without xs x ys k.time;
  }

-- ---- legal lists

empty_not : (front : List ℤ) (w : ℤ) (rest : List ℤ) → [] ≡ front ++ w ∷ rest → ⊥
empty_not [] w rest e = cc
empty_not (x ∷ front) w rest e = cc

module _ (p : Problem ObjState Op Reply) where
  pub split : (xs ys : List ℕ) (s t : ObjState) → Legal p s (xs ++ ys) t → (m : ObjState) × Legal p s xs m × Legal p m ys t
  split [] ys s t h = (s, refl, h)
  split (x ∷ xs) ys s t h = let k = split xs ys h.0 t h.2 in (k.0, (h.0, h.1, k.1), k.2)

  pub join : (xs ys : List ℕ) (s m t : ObjState) → Legal p s xs m → Legal p m ys t → Legal p s (xs ++ ys) t
  join [] ys s m t h k = subst (λ (u : ObjState). Legal p u ys t) (sym h) k
  join (x ∷ xs) ys s m t h k = (h.0, h.1, join xs ys h.0 m t h.2 k)

-- of an object whose states are lists of items, of which the first is taken
module _ {p : Problem ObjState Op Reply} {state : List ℤ → ObjState} {IsTaker : ℕ → Type 0} (holds : HoldsItems p state IsTaker) where
  still_items : (l : List ℕ) (items : List ℤ) (t : ObjState) → Legal p (state items) l t → (rest : List ℤ) × (t ≡ state rest)
  still_items [] items t h = (items, sym h)
  still_items (c ∷ cs) items t (m, step, more) =
      let one = holds.leaves items m c step in
      still_items cs one.0 t (subst (λ (s : ObjState). Legal p s cs t) one.1 more)

  -- An item that is there at the end was there before, and the calls are legal without it; or one of them put it in, and they are legal without that.
  abbrev Found : List ℕ → List ℤ → List ℤ → ℤ → List ℤ → Type 0
  Found l items front w rest =
      ((a : List ℤ) × (b : List ℤ) × (items ≡ a ++ w ∷ b) × Legal p (state (a ++ b)) l (state (front ++ rest)))
      ⊎ ((early : List ℕ) × (e : ℕ) × (late : List ℕ) × (l ≡ early ++ e ∷ late) × AddsItem p e w × Legal p (state items) (early ++ late) (state (front ++ rest)))

  find : (l : List ℕ) (items front : List ℤ) (w : ℤ) (rest : List ℤ) → Legal p (state items) l (state (front ++ w ∷ rest)) → Found l items front w rest
  find [] items front w rest h = inl (front, rest, holds.same_items items (front ++ w ∷ rest) h, refl)
  find (c ∷ cs) items front w rest (m, step, more) =
      let one = holds.leaves items m c step in
      elim (find cs one.0 front w rest (subst (λ (s : ObjState). Legal p s cs (state (front ++ w ∷ rest))) one.1 more)) [
        | inl q ↦ elim (holds.moved items q.0 w q.1 c (step ∙ ap Some (one.1 ∙ ap state q.2))) [
          | inl s ↦ inl (s.0, s.1, s.2, (state (q.0 ++ q.1), s.3, q.3))
          | inr s ↦ inr ([], c, cs, refl, s.0, subst (λ (l : List ℤ). Legal p (state l) cs (state (front ++ rest))) (sym s.1) q.3)
        ]
        | inr q ↦ inr (c ∷ q.0, q.1, q.2, ap (λ (l : List ℕ). c ∷ l) q.3, q.4, (state one.0, step ∙ ap Some one.1, q.5))
      ]

  -- without it the list is legal, or without it and a call that put in what it took
  abbrev WithoutTaker : List ℕ → ℕ → List ℕ → ObjState → Type 0
  WithoutTaker xs g ys t = Legal p (state []) (xs ++ ys) t ⊎ ((early : List ℕ) × (e : ℕ) × (late : List ℕ) × (w : ℤ) × (xs ≡ early ++ e ∷ late) × AddsItem p e w × TookOut p g w × Legal p (state []) (early ++ (late ++ ys)) t)

  without_taker : (xs : List ℕ) (g : ℕ) (ys : List ℕ) (t : ObjState) → IsTaker g → Legal p (state []) (xs ++ g ∷ ys) t → WithoutTaker xs g ys t
  without_taker xs g ys t taker h =
      let parts = split p xs (g ∷ ys) (state []) t h in
      let here = still_items xs [] parts.0 parts.1 in
      go here.0 (subst (λ (s : ObjState). Legal p (state []) xs s) here.1 parts.1) (subst (λ (s : ObjState). Legal p s (g ∷ ys) t) here.1 parts.2)
    where
      go : (items : List ℤ) → Legal p (state []) xs (state items) → Legal p (state items) (g ∷ ys) t → WithoutTaker xs g ys t
      go items before (m, step, more) = elim (holds.takes items m g taker step) [
        | inl none ↦ inl (join p xs ys (state []) (state []) t (subst (λ (l : List ℤ). Legal p (state []) xs (state l)) none.0 before) (subst (λ (s : ObjState). Legal p s ys t) none.1 more))
        | inr one ↦ taken one.0 one.1 one.3 (subst (λ (l : List ℤ). Legal p (state []) xs (state l)) one.2 before) (subst (λ (s : ObjState). Legal p s ys t) one.4 more)
      ]
        where
          taken : (w : ℤ) (rest : List ℤ) → TookOut p g w → Legal p (state []) xs (state (w ∷ rest)) → Legal p (state rest) ys t → WithoutTaker xs g ys t
          taken w rest took front back = elim (find xs [] [] w rest front) [
            | inl s ↦ absurd (empty_not s.0 w s.1 s.2)
            | inr s ↦ inr (s.0, s.1, s.2, w, s.3, s.4, took, subst (λ (l : List ℕ). Legal p (state []) l t) (append_assoc s.0 s.2 ys) (join p (s.0 ++ s.2) ys (state []) (state rest) t s.5 back))
          ]

  module _ (takers r : List ℕ) (all : (g : ℕ) → In g takers → IsTaker g) where
    -- what is left of a run without one of the calls that took
    abbrev Without : ℕ → List ℕ → Type 0
    Without g l = (m : List ℕ) × IsThinned p takers r m × ((t : ObjState) × Legal p (state []) m t) × ((b : ℕ) → In b m → In b l) × (In g m → ⊥)

    without : (g : ℕ) (l : List ℕ) → In g takers → In g l → IsThinned p takers r l → (t : ObjState) → Legal p (state []) l t → Without g l
    without g l taker there k t h =
        let at = in_place g l there in
        go at.0 at.1 at.2 (subst (λ (m : List ℕ). IsThinned p takers r m) at.2 k) (subst (λ (m : List ℕ). Legal p (state []) m t) at.2 h)
      where
        go : (xs ys : List ℕ) → l ≡ xs ++ g ∷ ys → IsThinned p takers r (xs ++ g ∷ ys) → Legal p (state []) (xs ++ g ∷ ys) t → Without g l
        go xs ys e k h =
            let once = thinned_without p takers r xs g ys (inl taker) k in
            let gone = (distinct_without g xs ys k.distinct).1 in
            let back : (b : ℕ) → In b (xs ++ ys) → In b l = λ b i. subst (In b) (sym e) (in_with b g xs ys i) in
            elim (without_taker xs g ys t (all g taker) h) [
              | inl legal ↦ (xs ++ ys, once, (t, legal), back, gone)
              | inr q ↦ (
                  let shape : xs ++ ys ≡ q.0 ++ q.1 ∷ (q.2 ++ ys) = ap (λ (m : List ℕ). m ++ ys) q.4 ∙ append_assoc q.0 (q.1 ∷ q.2) ys in
                  let within : (b : ℕ) → In b (q.0 ++ (q.2 ++ ys)) → In b (xs ++ ys) = λ b i. subst (In b) (sym shape) (in_with b q.1 q.0 (q.2 ++ ys) i) in
                  (q.0 ++ (q.2 ++ ys), thinned_without p takers r q.0 q.1 (q.2 ++ ys) (inr (g, q.3, taker, q.6, q.5)) (subst (λ (m : List ℕ). IsThinned p takers r m) shape once), (t, q.7), (λ b i. back b (within b i)), (λ i. gone (within g i)))
                  )
            ]

    pub thin_all : (gs : List ℕ) → ((g : ℕ) → In g gs → In g takers) → (l : List ℕ) → IsThinned p takers r l → (t : ObjState) → Legal p (state []) l t
        → (m : List ℕ) × IsThinned p takers r m × ((u : ObjState) × Legal p (state []) m u) × ((b : ℕ) → In b m → In b l) × ((g : ℕ) → In g gs → In g m → ⊥)
    thin_all [] among l k t h = (l, k, (t, h), (λ b i. i), (λ g i there. i))
    thin_all (g ∷ gs) among l k t h =
        let rest = thin_all gs (λ b i. among b (inr i)) l k t h in
        elim (in_or_not g rest.0) [
          | inr out ↦ (rest.0, rest.1, rest.2, rest.3, λ b i there. elim i [ inl e ↦ out (subst (λ (c : ℕ). In c rest.0) e there) | inr more ↦ rest.4 b more there ])
          | inl there ↦ (
              let w = without g rest.0 (among g (inl refl)) there rest.1 rest.2.0 rest.2.1 in
              (w.0, w.1, w.2, (λ b i. rest.3 b (w.3 b i)), λ b i here. elim i [ inl e ↦ w.4 (subst (λ (c : ℕ). In c w.0) e here) | inr more ↦ rest.4 b more (w.3 b here) ])
              )
        ]
