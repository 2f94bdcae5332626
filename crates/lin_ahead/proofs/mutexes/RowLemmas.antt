-- The sections of all acquires: one call after another, in the order of their returns, and those that stand next to each other.
use Rattle.std.proofs.Common.{◌≡◌, ℕ, zero, suc, ◌+◌, ◌-◌, ◌<◌, ◌≤◌, Some, List, [], ◌∷◌, ◌++◌, length, ◌⊎◌, inl, inr, refl, sym, ◌∙◌, ap, subst, arith}
use Rattle.std.specs.List.{slice_get, All}
use Rattle.std.specs.List.Sorted.{IsPermutation, IsNonDecreasingBy}
use Rattle.std.specs.Prelude.{slice_index_or}
use Rattle.std.proofs.lemmas.Bool.{cases_lt}
use Rattle.std.proofs.lemmas.List.Sorted.{All-permutation, Contains-permutation}
use Rattle.std.proofs.lemmas.Option.{slice_get-get_or, get_or_from_slice_get, slice_get_within}
use Rattle.lin_object.specs.declared.op.Op.{Op}
use Rattle.lin_object.specs.declared.reply.Reply.{Reply}
use Rattle.lin_object.specs.declared.state.ObjState.{ObjState}
use Rattle.lin_history.specs.declared.problems.problem.ProblemCall.{ProblemCall}
use Rattle.lin_history.specs.Problems.Problem.{Problem}
use Rattle.lin_ahead.specs.declared.mutexes.sections.Section.{Section}
use Rattle.lin_ahead.specs.Mutexes.Acquires.{acquired, IsAcquire, UnlocksBetween}
use Rattle.lin_ahead.specs.Mutexes.Sections.{IsSection, AreSections, ExcludeEachOther, SomeHoldTogether, AreInOrder}

one : {A : Type 0} (x y : A) → Some x ≡ Some y → x ≡ y
one x y e = cc

three : (i j : ℕ) → (i < j) ⊎ ((i ≡ j) ⊎ (j < i))
three i j = grind arith

-- ---- the members of a list, in another order

module _ {X : Type 0} where
  all_of : (P : X → Type 0) (xs : List X) → ((i : ℕ) (x : X) → slice_get xs i ≡ Some x → P x) → All P xs
  all_of P xs each k d less = each k (slice_index_or xs k d) (slice_get-get_or xs k d less)

  each_of : (P : X → Type 0) (xs : List X) → All P xs → (i : ℕ) (x : X) → slice_get xs i ≡ Some x → P x
  each_of P xs all i x e = subst P (get_or_from_slice_get xs i x x e) (all i x (slice_get_within xs i x e))

  moved : (xs ys : List X) → IsPermutation xs ys → (i : ℕ) (x : X) → slice_get xs i ≡ Some x → (j : ℕ) × (slice_get ys j ≡ Some x)
  moved xs ys same i x e =
      let k = Contains-permutation xs ys x same (i, slice_get_within xs i x e, get_or_from_slice_get xs i x x e) in
      (k.0, slice_get-get_or ys k.0 x k.1 ∙ ap Some k.2)

  -- of a list with one more: what was there, and the last
  pushed_early : (xs : List X) (x : X) (i : ℕ) (y : X) → slice_get xs i ≡ Some y → slice_get (xs ++ x ∷ []) i ≡ Some y
  pushed_early [] x i y e = absurd (cc)
  pushed_early (z ∷ xs) x zero y e = e
  pushed_early (z ∷ xs) x (suc i) y e = pushed_early xs x i y e

  pushed_last : (xs : List X) (x : X) → slice_get (xs ++ x ∷ []) (length xs) ≡ Some x
  pushed_last [] x = refl
  pushed_last (z ∷ xs) x = pushed_last xs x

  pushed_either : (xs : List X) (x : X) (i : ℕ) (y : X) → slice_get (xs ++ x ∷ []) i ≡ Some y → (slice_get xs i ≡ Some y) ⊎ (x ≡ y)
  pushed_either [] x zero y e = inr (one x y e)
  pushed_either [] x (suc i) y e = absurd (cc)
  pushed_either (z ∷ xs) x zero y e = inl e
  pushed_either (z ∷ xs) x (suc i) y e = pushed_either xs x i y e

-- sorted by the event at which each begins
pub in_order : (sections : List Section) → IsNonDecreasingBy (λ (s : Section). s.from) sections → AreInOrder sections
in_order sections sorted i j s t low e f =
    let k = sorted i j s low (slice_get_within sections j t f) in
    let first : slice_index_or sections i s ≡ s = get_or_from_slice_get sections i s s e in
    let second : slice_index_or sections j s ≡ t = get_or_from_slice_get sections j t s f in
    subst (λ (v : Section). v.from ≤ t.from) first (subst (λ (v : Section). (slice_index_or sections i s).from ≤ v.from) second k)

module _ (p : Problem ObjState Op Reply) where
  -- the sections of the first calls
  pub record AreSectionsTo (n : ℕ) (sections : List Section) : Type 0 where
    pub each : (i : ℕ) (s : Section) → slice_get sections i ≡ Some s → IsSection p s
    pub every : (a event : ℕ) → a < n → IsAcquire p a event → (i : ℕ) × (s : Section) × (slice_get sections i ≡ Some s) × (s.acquire ≡ a)

  pub no_sections : AreSectionsTo 0 []
  no_sections = record { each = λ i s e. absurd (cc); every = λ a event less acquire. absurd (omega (arith, less)) }

  pub section_more : (n : ℕ) (sections : List Section) (s : Section) → AreSectionsTo n sections → IsSection p s → s.acquire ≡ n → AreSectionsTo (n + 1) (sections ++ s ∷ [])
  section_more n sections s rows is at = record {
    each = λ i v e. elim (pushed_either sections s i v e) [
      | inl there ↦ rows.each i v there
      | inr same ↦ subst (IsSection p) same is
    ];
    every = λ a event less acquire. elim (cases_lt a n) [
      | inl low ↦ (let k = rows.every a event low acquire in (k.0, k.1, pushed_early sections s k.0 k.1 k.2, k.3))
      | inr high ↦ (length sections, s, pushed_last sections s, (let e : n ≡ a = omega (arith, less, high) in at ∙ e))
    ];
  }

  pub section_same : (n : ℕ) (sections : List Section) → AreSectionsTo n sections → ((event : ℕ) → IsAcquire p n event → ⊥) → AreSectionsTo (n + 1) sections
  section_same n sections rows none = record {
    each = rows.each;
    every = λ a event less acquire. elim (cases_lt a n) [
      | inl low ↦ rows.every a event low acquire
      | inr high ↦ absurd (let e : a ≡ n = omega (arith, less, high) in none event (subst (λ (k : ℕ). IsAcquire p k event) e acquire))
    ];
  }

  pub all_sections : (n : ℕ) (sections : List Section) → length p.calls ≤ n → AreSectionsTo n sections → AreSections p sections
  all_sections n sections all rows = record {
    each = rows.each;
    every = λ a event acquire. rows.every a event (let k = slice_get_within p.calls a acquire.0 acquire.1 in omega (arith, k, all)) acquire;
  }

  pub sections_moved : (xs ys : List Section) → IsPermutation xs ys → AreSections p xs → AreSections p ys
  sections_moved xs ys same rows = record {
    each = each_of (IsSection p) ys (All-permutation (IsSection p) xs ys same (all_of (IsSection p) xs rows.each));
    every = λ a event acquire. (let k = rows.every a event acquire in let m = moved xs ys same k.0 k.1 k.2 in (m.0, k.1, m.1, k.3));
  }

  -- an acquire begins one section
  one_section : (s t : Section) → IsSection p s → IsSection p t → s.acquire ≡ t.acquire → (s.process ≡ t.process) × (s.from ≡ t.from)
  one_section s t is also same =
      let call : is.0 ≡ also.0 = one is.0 also.0 (sym is.1 ∙ subst (λ (k : ℕ). slice_get p.calls k ≡ Some also.0) (sym same) also.1) in (
        sym is.3 ∙ ap (λ (x : ProblemCall Op Reply). x.process) call ∙ also.3,
        one s.from t.from (sym is.2 ∙ subst (λ (x : ProblemCall Op Reply). acquired x.op x.returned ≡ Some t.from) (sym call) also.2),
      )

  -- of the first sections none excludes the next one
  abbrev pub NoneTo : ℕ → List Section → Type 0
  NoneTo n sections = (k : ℕ) (s t : Section) → k + 1 < n → slice_get sections k ≡ Some s → slice_get sections (k + 1) ≡ Some t → ExcludeEachOther p s t → ⊥

  pub none_more : (n : ℕ) (sections : List Section) (s t : Section) → slice_get sections (n - 1) ≡ Some s → slice_get sections n ≡ Some t → 1 ≤ n → (ExcludeEachOther p s t → ⊥) → NoneTo n sections → NoneTo (n + 1) sections
  none_more n sections s t before here low not rows k u v less e f h = elim (cases_lt (k + 1) n) [
    | inl early ↦ rows k u v early e f h
    | inr late ↦ (
        let at : k + 1 ≡ n = omega (arith, less, late) in
        let at_before : k ≡ n - 1 = omega (arith, at, low) in
        let first : u ≡ s = one u s (sym (subst (λ (m : ℕ). slice_get sections m ≡ Some u) at_before e) ∙ before) in
        let second : v ≡ t = one v t (sym (subst (λ (m : ℕ). slice_get sections m ≡ Some v) at f) ∙ here) in
        not (subst (λ (w : Section). ExcludeEachOther p w t) first (subst (ExcludeEachOther p u) second h))
        )
  ]

  pub none_at_all : (n : ℕ) (sections : List Section) → length sections ≤ n → NoneTo n sections → NoneTo (length sections) sections
  none_at_all n sections all none k s t less = none k s t (omega (arith, less, all))

  wider : (process from to more : ℕ) → to ≤ more → UnlocksBetween p process from to → UnlocksBetween p process from more
  wider process from to more low h = (h.0, h.1, h.2, h.3, h.4, h.5, (let a = h.6 in omega (arith, low, a)))

  module _ (sections : List Section) (rows : AreSections p sections) (order : AreInOrder sections) (none : NoneTo (length sections) sections) where
    -- from a section on that gives no way up to an event, all up to the event are the same
    same_on : (i : ℕ) (s : Section) → slice_get sections i ≡ Some s → (to : ℕ) → (UnlocksBetween p s.process s.from to → ⊥) → (n : ℕ) (t : Section) → slice_get sections (i + n) ≡ Some t → t.from ≤ to → s.acquire ≡ t.acquire
    same_on i s e to bound zero t f low = ap (λ (v : Section). v.acquire) (one s t (sym e ∙ subst (λ (m : ℕ). slice_get sections m ≡ Some t) (let z : i + zero ≡ i = omega arith in z) f))
    same_on i s e to bound (suc n) t f low =
        let within = slice_get_within sections (i + suc n) t f in
        let before : slice_get sections (i + n) ≡ Some (slice_index_or sections (i + n) t) = slice_get-get_or sections (i + n) t (omega (arith, within)) in
        let up = order (i + n) (i + suc n) (slice_index_or sections (i + n) t) t (omega arith) before f in
        next (slice_index_or sections (i + n) t) before up (same_on i s e to bound n (slice_index_or sections (i + n) t) before (omega (arith, up, low))) (three s.acquire t.acquire)
      where
        next : (u : Section) → slice_get sections (i + n) ≡ Some u → u.from ≤ t.from → s.acquire ≡ u.acquire → (s.acquire < t.acquire) ⊎ ((s.acquire ≡ t.acquire) ⊎ (t.acquire < s.acquire)) → s.acquire ≡ t.acquire
        next u before up same choice = elim choice [
          | inl less ↦ absurd (apart (λ k. omega (arith, less, k)))
          | inr (inl is) ↦ is
          | inr (inr more) ↦ absurd (apart (λ k. omega (arith, more, k)))
        ]
          where
            apart : (s.acquire ≡ t.acquire → ⊥) → ⊥
            apart other =
                let own = one_section s u (rows.each i s e) (rows.each (i + n) u before) same in
                let within = slice_get_within sections (i + suc n) t f in
                let at : i + suc n ≡ (i + n) + 1 = omega arith in
                none (i + n) u t (omega (arith, within)) before (subst (λ (m : ℕ). slice_get sections m ≡ Some t) at f)
                (λ k. other (same ∙ k), up, λ h. bound (wider s.process s.from t.from to low (subst (λ (q : ℕ). UnlocksBetween p q s.from t.from) (sym own.0) (subst (λ (q : ℕ). UnlocksBetween p u.process q t.from) (sym own.1) h))))

    -- so no two exclude each other
    pub none_together : SomeHoldTogether p → ⊥
    none_together (s, t, first, second, (other, low, held)) =
        let i = rows.every s.acquire s.from (first.0, first.1, first.2) in
        let j = rows.every t.acquire t.from (second.0, second.1, second.2) in
        let own = one_section i.1 s (rows.each i.0 i.1 i.2) first i.3 in
        let next = one_section j.1 t (rows.each j.0 j.1 j.2) second j.3 in
        by i.0 j.0 i.1 j.1 i.2 j.2 i.3 j.3 own next (cases_lt j.0 i.0)
      where
        by : (i j : ℕ) (u v : Section) → slice_get sections i ≡ Some u → slice_get sections j ≡ Some v → u.acquire ≡ s.acquire → v.acquire ≡ t.acquire → (u.process ≡ s.process) × (u.from ≡ s.from) → (v.process ≡ t.process) × (v.from ≡ t.from) → (j < i) ⊎ (i ≤ j) → ⊥
        by i j u v e f is also own next (inr up) =
            other (sym is ∙ same_on i u e t.from
            (λ h. held (subst (λ (q : ℕ). UnlocksBetween p q s.from t.from) own.0 (subst (λ (q : ℕ). UnlocksBetween p u.process q t.from) own.1 h)))
            (j - i) v (subst (λ (m : ℕ). slice_get sections m ≡ Some v) (let at : j ≡ i + (j - i) = omega (arith, up) in at) f) (let a = next.1 in omega (arith, a)) ∙ also)
        by i j u v e f is also own next (inl down) =
            let back = order j i v u (omega (arith, down)) f e in
            let a = own.1 in
            let b = next.1 in
            let tie : s.from ≡ t.from = omega (arith, back, a, b, low) in
            other (sym (sym also ∙ same_on j v f s.from
            (λ h. (let c = h.5 in let d = h.6 in omega (arith, b, tie, c, d)))
            (i - j) u (subst (λ (m : ℕ). slice_get sections m ≡ Some u) (let at : i ≡ j + (i - j) = omega (arith, down) in at) e) (omega (arith, a)) ∙ is))
