-- The part of a key: linearizations of the whole, cut down to the key, and the order of the key's calls.
use Rattle.std.proofs.Common.{◌≡◌, ℕ, ◌<◌, ◌≤◌, Some, List, [], ◌∷◌, ◌++◌, length, ◌⊎◌, inl, inr, refl, sym, ◌∙◌, ap, subst, arith}
use Rattle.lin_history.specs.declared.problems.problem.ProblemCall.{ProblemCall}
use Rattle.lin_history.specs.Problems.Lists.{In, IsDistinct, IsUpTo, IsLeast}
use Rattle.lin_history.specs.Problems.ListLemmas.{has_none, in_early, in_either, in_late}
use Rattle.lin_history.specs.Problems.Problem.{Problem}
use Rattle.lin_history.specs.Problems.LegalLists.{next, Legal}
use Rattle.lin_history.specs.Problems.Linearizations.{IsLinearization}
use Rattle.lin_history.specs.Locality.OrderLemmas.{keeps_time}
use Rattle.lin_parts.specs.Parts.{ArePart, IsRising, IsFilled, name, named}
use Rattle.lin_decide.specs.Keys.Products.{with_key, IsProduct, AreOfKey, part_of_key}
use Rattle.lin_decide.specs.Keys.Merging.{IsKeyOrder, IsMerged}
use Rattle.lin_parts.specs.PartLemmas.{three, legal_calls, part_of_list, in_named, index_in, one_name}
use Rattle.lin_decide.proofs.keys.KeyLemmas.{key_on, key_off, key_in, in_key, key_distinct, key_time, same_key_or_not, merged_least}

-- As long as both lists go on alike, the first goes on with no greater call.
abbrev GoesFirst : List ℕ → List ℕ → Type 0
GoesFirst [] m = Unit {0}
GoesFirst (a ∷ l) [] = Unit {0}
GoesFirst (a ∷ l) (b ∷ m) = (a ≤ b) × (a ≡ b → GoesFirst l m)

goes_first_at : (l m early : List ℕ) (h : ℕ) (rest : List ℕ) (c : ℕ) (late : List ℕ) → GoesFirst l m → l ≡ early ++ h ∷ rest → m ≡ early ++ c ∷ late → h ≤ c
goes_first_at l m [] h rest c late g e f = (let both : GoesFirst (h ∷ rest) (c ∷ late) = subst (λ (x : List ℕ). GoesFirst (h ∷ rest) x) f (subst (λ (x : List ℕ). GoesFirst x m) e g) in both.0)
goes_first_at l m (x ∷ early) h rest c late g e f = (let both : GoesFirst (x ∷ (early ++ h ∷ rest)) (x ∷ (early ++ c ∷ late)) = subst (λ (y : List ℕ). GoesFirst (x ∷ (early ++ h ∷ rest)) y) f (subst (λ (y : List ℕ). GoesFirst y m) e g) in goes_first_at (early ++ h ∷ rest) (early ++ c ∷ late) early h rest c late (both.1 refl) refl refl)

rising_goes : (rest m : List ℕ) → IsRising rest → IsDistinct m → ((c : ℕ) → In c m → In c rest) → GoesFirst rest m
rising_goes [] m r d inside = tt
rising_goes (x ∷ rest) [] r d inside = tt
rising_goes (x ∷ rest) (c ∷ m) r d inside = (
  elim (inside c (inl refl)) [ inl e ↦ omega (arith, e) | inr more ↦ (let less = r.0 c more in omega (arith, less)) ],
  (λ e. rising_goes rest m r.1 d.1 (λ b h. elim (inside b (inr h)) [ inl s ↦ absurd (d.0 (subst (λ (y : ℕ). In y m) (s ∙ e) h)) | inr more ↦ more ])),
)

filled_goes : (l rest m : List ℕ) → IsUpTo l m → IsRising rest → IsDistinct m → ((c : ℕ) → In c m → In c l ⊎ In c rest) → GoesFirst (l ++ rest) m
filled_goes [] rest m up r d inside = rising_goes rest m r d (λ c h. elim (inside c h) [ inl none ↦ absurd none | inr there ↦ there ])
filled_goes (a ∷ l) rest [] up r d inside = tt
filled_goes (a ∷ l) rest (b ∷ m) up r d inside = elim up [
  | inl less ↦ (omega (arith, less), λ e. absurd (omega (arith, less, e)))
  | inr same ↦ (
    (let e = same.0 in omega (arith, e)),
    λ e. filled_goes l rest m same.1 r d.1 (λ c h. elim (inside c (inr h)) [
      | inl (inl s) ↦ absurd (d.0 (subst (λ (y : ℕ). In y m) (s ∙ e) h))
      | inl (inr more) ↦ inl more
      | inr there ↦ inr there
    ]),
  )
]

module _ (kept : List ℕ) (rises : (i j : ℕ) → i < j → j < length kept → name kept i < name kept j) where
  goes_named : (l m : List ℕ) → ((i : ℕ) → In i l → i < length kept) → ((i : ℕ) → In i m → i < length kept) → GoesFirst l m → GoesFirst (named kept l) (named kept m)
  goes_named [] m hl hm g = tt
  goes_named (a ∷ l) [] hl hm g = tt
  goes_named (a ∷ l) (b ∷ m) hl hm g = (
    elim (three a b) [
      | inl less ↦ (let r = rises a b less (hm b (inl refl)) in omega (arith, r))
      | inr (inl same) ↦ (let e = ap (name kept) same in omega (arith, e))
      | inr (inr more) ↦ absurd (let up = g.0 in omega (arith, up, more))
    ],
    (λ e. goes_named l m (λ i h. hl i (inr h)) (λ i h. hm i (inr h)) (g.1 (one_name kept rises a b (hl a (inl refl)) (hm b (inl refl)) e))),
  )

module _ {State Op Reply : Type 0} (p : Problem State Op Reply) (key : ℕ → ℕ) (count : ℕ) (only : ℕ → State → State) (keeps : State → Type 0) (product : IsProduct p key count only keeps) where
  key_legal : (k : ℕ) → k < count → (l : List ℕ) (s t : State) → keeps s → Legal p s l t → Legal p (only k s) (with_key key k l) (only k t)
  key_legal k known [] s t h legal = ap (only k) legal
  key_legal k known (c ∷ l) s t h legal =
      let rest = key_legal k known l legal.0 t (product.kept s legal.0 c h legal.1) legal.2 in
      elim (same_key_or_not key k c) [
        | inl e ↦ subst (λ (y : List ℕ). Legal p (only k s) y (only k t)) (sym (key_on key k c l e)) (only k legal.0, subst (λ (j : ℕ). next p (only j s) c ≡ Some (only j legal.0)) e (product.own s legal.0 c h legal.1), rest)
        | inr n ↦ subst (λ (y : List ℕ). Legal p (only k s) y (only k t)) (sym (key_off key k c l n)) (subst (λ (u : State). Legal p u (with_key key k l) (only k t)) (product.other s legal.0 c k h legal.1 known n) rest)
      ]

  module _ (k : ℕ) (known : k < count) (kept : List ℕ) (calls : List (ProblemCall Op Reply)) (of_key : AreOfKey p key k kept) (part : ArePart p kept calls) where
    abbrev Whole : Problem State Op Reply
    Whole = record p { start = only k p.start }

    here : ArePart Whole kept calls
    here = record { count = part.count; same = part.same; rises = part.rises }

    -- A linearization of the whole, cut down to the key, is one of the key's part.
    pub part_of_whole : (l : List ℕ) → IsLinearization p l → (m : List ℕ) × (named kept m ≡ with_key key k l) × ((i : ℕ) → In i m → i < length kept) × IsLinearization (part_of_key p (only k) calls) m
    part_of_whole l lin = part_of_list Whole kept calls here (with_key key k l)
        (key_distinct key k l lin.continuation.distinct)
        (only k lin.continuation.legal.0, key_legal k known l p.start lin.continuation.legal.0 product.start lin.continuation.legal.1)
        (key_time p key k l (keeps_time p l lin.continuation))
        (λ c h. (let i = key_in key k c l h in of_key.there c (legal_calls p l p.start lin.continuation.legal.0 lin.continuation.legal.1 c i.0) i.1))
        (λ c h done. in_key key k c l (elim (lin.complete c done) [ inl f ↦ absurd (let none = has_none (length p.calls) c in cc) | inr f ↦ f ]) (of_key.own c h))

    -- Where a key's part has no linearization the whole has none.
    pub none_of_whole : ((m : List ℕ) → IsLinearization (part_of_key p (only k) calls) m → ⊥) → (l : List ℕ) → IsLinearization p l → ⊥
    none_of_whole none l lin = let m = part_of_whole l lin in none m.0 m.3

    -- The least linearization of a key's part, and behind it the other calls of the part, is an order of the key.
    pub order_of_key : (l all : List ℕ) → IsLeast (IsLinearization (part_of_key p (only k) calls)) l → IsFilled (length kept) l all → IsKeyOrder p key k (named kept all)
    order_of_key l all least f = record {
      there = λ c h e. (let i = index_in kept c (of_key.there c h e) in subst (λ (x : ℕ). In x (named kept all)) i.2 (in_named kept i.0 all (subst (In i.0) (sym f.is) (elim (f.each i.0 i.1) [ inl a ↦ in_early i.0 l f.rest a | inr a ↦ in_late i.0 l f.rest a ]))));
      least = λ whole lin early h rest c late e g. (
          let m = part_of_whole whole lin in
          let first : GoesFirst all m.0 = subst (λ (x : List ℕ). GoesFirst x m.0) (sym f.is) (filled_goes l f.rest m.0 (least.1 m.0 m.3) f.rises m.3.continuation.distinct (λ i there. f.each i (m.2 i there))) in
          goes_first_at (named kept all) (named kept m.0) early h rest c late (goes_named kept part.rises all m.0 below m.2 first) e (m.1 ∙ g)
          );
    }
      where
        below_l : (i : ℕ) → In i l → i < length kept
        below_l i h = (let w = legal_calls (part_of_key p (only k) calls) l (only k p.start) least.0.continuation.legal.0 least.0.continuation.legal.1 i h in let e = part.count in omega (arith, w, e))

        either : (i : ℕ) → In i l ⊎ In i f.rest → i < length kept
        either i h = elim h [ inl a ↦ below_l i a | inr a ↦ f.below i a ]

        below : (i : ℕ) → In i all → i < length kept
        below i h = either i (in_either i l f.rest (subst (In i) f.is h))

  -- The orders of the keys, merged, are the least linearization of the whole, where they are one.
  pub merged_is_least : (orders : ℕ → List ℕ) → ((k : ℕ) → IsKeyOrder p key k (orders k)) → (l : List ℕ) → IsMerged p key orders l → IsLinearization p l → IsLeast (IsLinearization p) l
  merged_is_least orders each l merged lin = (lin, λ m h. merged_least p key orders each l merged m h)
