-- The open calls, parted into those that are conflicts of their own and the others.
use Rattle.std.proofs.Common.{◌≡◌, ℕ, ◌+◌, ◌<◌, ◌≤◌, List, [], ◌∷◌, ◌++◌, length, drop, get_or, ◌⊎◌, inl, inr, sym, subst, append_assoc, append-nil}
use Rattle.lin_history.specs.Problems.Lists.{In, IsDistinct}
use Rattle.lin_history.specs.Problems.ListLemmas.{in_early, in_late, in_either}
use Rattle.lin_parts.specs.ListLemmas.{drop_at, drop_none, in_at}
use Rattle.lin_prefixes.specs.declared.conflicts.OpenCalls.{OpenCalls}
use Rattle.lin_prefixes.specs.Prefixes.{AreParted, IsSingle}
use Rattle.lin_prefixes.proofs.FreedLemmas.{distinct_without}
use Rattle.lin_prefixes.proofs.TwinLemmas.{distinct_with}

-- so far: both lists, and those that come
pub record AreParting (conflicts : List (List ℕ)) (spared others : List ℕ) (i : ℕ) (gone left : List ℕ) : Type 0 where
  pub distinct : IsDistinct (gone ++ (left ++ drop i others))
  pub gone_is : (c : ℕ) → In c gone → In c spared ⊎ (In c others × IsSingle conflicts c)
  pub left_is : (c : ℕ) → In c left → In c others
  pub there : (c : ℕ) → In c spared ⊎ In c others → In c gone ⊎ (In c left ⊎ In c (drop i others))

module _ (conflicts : List (List ℕ)) (spared others : List ℕ) where
  pub parting_start : IsDistinct (spared ++ others) → AreParting conflicts spared others 0 spared []
  parting_start d = record { distinct = d; gone_is = λ c h. inl h; left_is = λ c h. absurd h; there = λ c h. elim h [ inl a ↦ inl a | inr a ↦ inr (inr a) ] }

  module _ (i : ℕ) (gone left : List ℕ) (within : i < length others) (m : AreParting conflicts spared others i gone left) where
    abbrev x : ℕ
    x = get_or others i 0

    abbrev rest : List ℕ
    rest = drop (i + 1) others

    now : IsDistinct (gone ++ (left ++ x ∷ rest))
    now = subst (λ (l : List ℕ). IsDistinct (gone ++ (left ++ l))) (drop_at others i within) m.distinct

    found : (c : ℕ) → In c spared ⊎ In c others → In c gone ⊎ (In c left ⊎ ((c ≡ x) ⊎ In c rest))
    found c h = elim (m.there c h) [ inl a ↦ inl a | inr (inl a) ↦ inr (inl a) | inr (inr a) ↦ inr (inr (subst (In c) (drop_at others i within) a)) ]

    pub parting_gone : (new : List ℕ) → new ≡ gone ++ x ∷ [] → IsSingle conflicts x → AreParting conflicts spared others (i + 1) new left
    parting_gone new e single = rw e (record {
      distinct =
          let d = distinct_without x (gone ++ left) rest (subst IsDistinct (sym (append_assoc gone left (x ∷ rest))) now) in
          let apart = append_assoc gone left rest in
          subst IsDistinct (sym (append_assoc gone (x ∷ []) (left ++ rest))) (distinct_with gone (left ++ rest) x (subst IsDistinct apart d.0) (λ h. d.1 (subst (In x) (sym apart) h)));
      gone_is = λ c h. elim (in_either c gone (x ∷ []) h) [
        | inl a ↦ m.gone_is c a
        | inr (inl a) ↦ inr (subst (λ (b : ℕ). In b others) (sym a) (in_at others i within), subst (IsSingle conflicts) (sym a) single)
        | inr (inr none) ↦ absurd none
      ];
      left_is = m.left_is;
      there = λ c h. elim (found c h) [
        | inl a ↦ inl (in_early c gone (x ∷ []) a)
        | inr (inl a) ↦ inr (inl a)
        | inr (inr (inl a)) ↦ inl (in_late c gone (x ∷ []) (inl a))
        | inr (inr (inr a)) ↦ inr (inr a)
      ];
    })

    pub parting_left : (new : List ℕ) → new ≡ left ++ x ∷ [] → AreParting conflicts spared others (i + 1) gone new
    parting_left new e = rw e (record {
      distinct = subst (λ (l : List ℕ). IsDistinct (gone ++ l)) (sym (append_assoc left (x ∷ []) rest)) now;
      gone_is = m.gone_is;
      left_is = λ c h. elim (in_either c left (x ∷ []) h) [
        | inl a ↦ m.left_is c a
        | inr (inl a) ↦ subst (λ (b : ℕ). In b others) (sym a) (in_at others i within)
        | inr (inr none) ↦ absurd none
      ];
      there = λ c h. elim (found c h) [
        | inl a ↦ inl a
        | inr (inl a) ↦ inr (inl (in_early c left (x ∷ []) a))
        | inr (inr (inl a)) ↦ inr (inl (in_late c left (x ∷ []) (inl a)))
        | inr (inr (inr a)) ↦ inr (inr a)
      ];
    })

  pub parting_end : (i : ℕ) (parted : OpenCalls) → length others ≤ i → AreParting conflicts spared others i parted.gone.items parted.left.items → AreParted conflicts spared others parted
  parting_end i parted end m =
      let none = drop_none others i end in
      record {
        distinct = subst (λ (l : List ℕ). IsDistinct (parted.gone.items ++ l)) (append-nil parted.left.items) (subst (λ (l : List ℕ). IsDistinct (parted.gone.items ++ (parted.left.items ++ l))) none m.distinct);
        gone = m.gone_is;
        left = m.left_is;
        there = λ c h. elim (m.there c h) [ inl a ↦ inl a | inr (inl a) ↦ inr a | inr (inr a) ↦ absurd (subst (In c) none a) ];
      }
