-- The numbers of each call by its cluster, from the rows of owners, one after another.
use Rattle.std.proofs.Common.{◌≡◌, ◌≢◌, ℕ, zero, suc, ◌+◌, ◌<◌, ◌≤◌, min, max, Option, Some, None, List, [], ◌∷◌, length, replicate, ◌⊎◌, inl, inr, refl, sym, ◌∙◌, ap, subst, arith}
use Rattle.std.specs.Prelude.{slice_get, slice_set, IsSomeAnd}
use Rattle.std.proofs.lemmas.List.{length-set, length-replicate}
use Rattle.lin_object.specs.declared.op.Op.{Op}
use Rattle.lin_object.specs.declared.reply.Reply.{Reply}
use Rattle.lin_history.specs.declared.problems.problem.ProblemCall.{ProblemCall}
use Rattle.lin_history.specs.OptionLemmas.{some_and, and_some}
use Rattle.lin_ahead.specs.declared.items.item_calls.TheConstants.{BEYOND}
use Rattle.lin_ahead.specs.declared.values.needed_pairs.CallNumbers.{CallNumbers}
use Rattle.lin_ahead.specs.declared.values.owners.Owners.{Owners}
use Rattle.lin_ahead.specs.Values.TakenTwice.{IsSoleOwner}
use Rattle.lin_ahead.specs.Values.Clusters.{IsForced, Returned, CalledBy, OfCluster, IsClusterBy, IsClusterFrom, Covers, AreWidened, AreNumbersTo}

-- what was written at an index, or what was there
pub written : {A : Type 0} (xs : List A) (i j : ℕ) (y z : A) → slice_get (slice_set xs i y) j ≡ Some z → ((j ≡ i) × (y ≡ z)) ⊎ ((j ≢ i) × (slice_get xs j ≡ Some z))
written [] i j y z h = absurd (cc)
written (x ∷ xs) zero zero y z h = inl (refl, (let k : y ≡ z = cc in k))
written (x ∷ xs) zero (suc j) y z h = inr ((λ e. omega (arith, e)), h)
written (x ∷ xs) (suc i) zero y z h = inr ((λ e. omega (arith, e)), h)
written (x ∷ xs) (suc i) (suc j) y z h = elim (written xs i j y z h) [
  | inl q ↦ inl (ap suc q.0, q.1)
  | inr q ↦ inr ((λ e. q.0 (omega (arith, e))), q.1)
]

all_same : {A : Type 0} (n i : ℕ) (x y : A) → slice_get (replicate n x) i ≡ Some y → x ≡ y
all_same zero i x y h = absurd (cc)
all_same (suc n) zero x y h = (let k : x ≡ y = cc in k)
all_same (suc n) (suc i) x y h = all_same n i x y h

min_is : (m n k : ℕ) → k ≡ min m n → (k ≡ m) ⊎ (k ≡ n)
min_is m n k e = grind (arith, e)

max_is : (m n k : ℕ) → k ≡ max m n → (k ≡ m) ⊎ (k ≡ n)
max_is m n k e = grind (arith, e)

pub least_of_two : (old new : ℕ) (r : ℕ × Reply) (back : Option (ℕ × Reply)) → back ≡ Some r → new ≡ min old r.0 → (new ≡ old) ⊎ ((q : ℕ × Reply) × (back ≡ Some q) × (new ≡ q.0))
least_of_two old new r back is e = elim (min_is old r.0 new e) [ inl f ↦ inl f | inr f ↦ inr (r, is, f) ]

module _ (calls : List (ProblemCall Op Reply)) where
  no_call : (c : ℕ) (P : ProblemCall Op Reply → Type 0) → slice_get calls c ≡ None → IsSomeAnd (slice_get calls c) P → ⊥
  no_call c P e h = (let x = some_and (slice_get calls c) P h in cc)

  covers_none : (c : ℕ) (numbers : CallNumbers) → slice_get calls c ≡ None → Covers calls numbers c
  covers_none c numbers e = record {
    by = λ m h. absurd (no_call c (λ x. IsSomeAnd x.returned (λ r. r.0 ≡ m)) e h);
    from = λ n few h. absurd (no_call c (λ x. n ≤ x.called) e h);
  }

  -- a call that is none widens nothing
  pub widened_by_none : (c : ℕ) (numbers : CallNumbers) → slice_get calls c ≡ None → AreWidened calls c c numbers numbers
  widened_by_none c numbers e = record { by = inl refl; from = inl refl; less = omega arith; more = omega arith; one = covers_none c numbers e; other = covers_none c numbers e }

  covers_one : (c : ℕ) (x : ProblemCall Op Reply) (new : CallNumbers) → slice_get calls c ≡ Some x → ((r : ℕ × Reply) → x.returned ≡ Some r → new.by ≤ r.0) → min BEYOND x.called ≤ new.from → Covers calls new c
  covers_one c x new there by from = record {
    by = λ m h. (
        let r = some_and x.returned (λ r. r.0 ≡ m) (rw there at h) in
        let less = by r.0 r.1 in
        let same = r.2 in
        omega (arith, less, same));
    from = λ n few h. (let k : n ≤ x.called = rw there at h in omega (arith, few, k, from));
  }

  -- a call widens the numbers to its events
  pub widened_by : (c : ℕ) (x : ProblemCall Op Reply) (old new : CallNumbers) → slice_get calls c ≡ Some x → (new.by ≡ old.by) ⊎ ((r : ℕ × Reply) × (x.returned ≡ Some r) × (new.by ≡ r.0)) → new.by ≤ old.by → ((r : ℕ × Reply) → x.returned ≡ Some r → new.by ≤ r.0) → new.from ≡ max old.from (min BEYOND x.called) → AreWidened calls c c old new
  widened_by c x old new there by less under from =
      let covers = covers_one c x new there under (omega (arith, from)) in
      record {
        by = elim by [
          | inl e ↦ inl e
          | inr q ↦ inr (c, inl refl, rw there (and_some x.returned (λ r. r.0 ≡ new.by) q.0 q.1 (sym q.2)))
        ];
        from = elim (max_is old.from (min BEYOND x.called) new.from from) [
          | inl e ↦ inl e
          | inr e ↦ inr (omega (arith, e), (c, inl refl, rw there (let h : new.from ≤ x.called = omega (arith, e) in h)))
        ];
        less = less;
        more = omega (arith, from);
        one = covers;
        other = covers;
      }

  covers_more : (old new : CallNumbers) (c : ℕ) → new.by ≤ old.by → old.from ≤ new.from → Covers calls old c → Covers calls new c
  covers_more old new c less more covers = record {
    by = λ m h. (let k = covers.by m h in omega (arith, less, k));
    from = λ n few h. (let k = covers.from n few h in omega (arith, more, k));
  }

  -- one call after another
  pub widened_then : (a b : ℕ) (old middle new : CallNumbers) → AreWidened calls a a old middle → AreWidened calls b b middle new → AreWidened calls a b old new
  widened_then a b old middle new one two = record {
    by = elim two.by [
      | inl e ↦ elim one.by [ inl f ↦ inl (e ∙ f) | inr q ↦ inr (q.0, inl (either q.1), subst (λ (m : ℕ). Returned calls q.0 m) (sym e) q.2) ]
      | inr q ↦ inr (q.0, inr (either q.1), q.2)
    ];
    from = elim two.from [
      | inl e ↦ elim one.from [ inl f ↦ inl (e ∙ f) | inr q ↦ inr ((let h = q.0 in omega (arith, h, e)), (q.1.0, inl (either q.1.1), subst (λ (m : ℕ). CalledBy calls m q.1.0) (sym e) q.1.2)) ]
      | inr q ↦ inr (q.0, (q.1.0, inr (either q.1.1), q.1.2))
    ];
    less = (let x = one.less in let y = two.less in omega (arith, x, y));
    more = (let x = one.more in let y = two.more in omega (arith, x, y));
    one = covers_more middle new a two.less two.more one.one;
    other = two.one;
  }
    where
      either : {c d : ℕ} → (c ≡ d) ⊎ (c ≡ d) → c ≡ d
      either (inl e) = e
      either (inr e) = e

  module _ (rows : List Owners) where
    -- of no rows nothing is told
    pub no_numbers : (numbers : List CallNumbers) (nothing : CallNumbers) → nothing.by ≡ BEYOND → nothing.from ≡ 0 → numbers ≡ replicate (length calls) nothing → AreNumbersTo calls rows 0 numbers
    no_numbers numbers nothing by from e = record {
      each = ap length e ∙ length-replicate (length calls) nothing;
      by = λ w n there. inl (let same : nothing ≡ n = all_same (length calls) w nothing n (rw e at there) in let k : nothing.by ≡ n.by = ap (λ (x : CallNumbers). x.by) same in omega (arith, by, k));
      from = λ w n there. inl (let same : nothing ≡ n = all_same (length calls) w nothing n (rw e at there) in sym (ap (λ (x : CallNumbers). x.from) same) ∙ from);
      covers = λ w g n there less forced. absurd (omega (arith, less));
    }

    -- the row tells its one owner
    pub forced_owner : (g w : ℕ) (row : Owners) → slice_get rows g ≡ Some row → IsForced rows w g → IsSoleOwner row (Some w)
    forced_owner g w row there forced = rw there at forced

    pub forced_so : (g w : ℕ) (row : Owners) → slice_get rows g ≡ Some row → IsSoleOwner row (Some w) → IsForced rows w g
    forced_so g w row there sole = rw there sole

    below : (g k : ℕ) → g < k + 1 → (g < k) ⊎ (g ≡ k)
    below g k h = grind (arith, h)

    -- a row that forces no call of the rows adds nothing
    pub numbers_stay : (k : ℕ) (numbers : List CallNumbers) → AreNumbersTo calls rows k numbers → ((w : ℕ) (n : CallNumbers) → slice_get numbers w ≡ Some n → IsForced rows w k → ⊥) → AreNumbersTo calls rows (k + 1) numbers
    numbers_stay k numbers told none = record {
      each = told.each;
      by = told.by;
      from = told.from;
      covers = λ w g n there less forced. elim (below g k less) [
        | inl h ↦ told.covers w g n there h forced
        | inr e ↦ absurd (none w n there (subst (λ (c : ℕ). IsForced rows w c) e forced))
      ];
    }

    -- a row that forces a call widens its numbers
    pub numbers_widen : (k w : ℕ) (numbers : List CallNumbers) (old new : CallNumbers) → AreNumbersTo calls rows k numbers → slice_get numbers w ≡ Some old → IsForced rows w k → ((v : ℕ) → IsForced rows v k → v ≡ w) → AreWidened calls w k old new → AreNumbersTo calls rows (k + 1) (slice_set numbers w new)
    numbers_widen k w numbers old new told there forced only wide = record {
      each = length-set numbers w new ∙ told.each;
      by = λ v n here. elim (written numbers w v new n here) [
        | inl q ↦ subst (λ (c : ℕ). IsClusterBy calls rows c n.by) (sym q.0) (subst (λ (x : CallNumbers). IsClusterBy calls rows w x.by) q.1 by_new)
        | inr q ↦ told.by v n q.1
      ];
      from = λ v n here. elim (written numbers w v new n here) [
        | inl q ↦ subst (λ (c : ℕ). IsClusterFrom calls rows c n.from) (sym q.0) (subst (λ (x : CallNumbers). IsClusterFrom calls rows w x.from) q.1 from_new)
        | inr q ↦ told.from v n q.1
      ];
      covers = λ v g n here less is. elim (written numbers w v new n here) [
        | inl q ↦ subst (λ (x : CallNumbers). Covers calls x v × Covers calls x g) q.1 (subst (λ (c : ℕ). Covers calls new c × Covers calls new g) (sym q.0) (at_new g less (subst (λ (c : ℕ). IsForced rows c g) q.0 is)))
        | inr q ↦ elim (below g k less) [
          | inl h ↦ told.covers v g n q.1 h is
          | inr e ↦ absurd (q.0 (only v (subst (λ (c : ℕ). IsForced rows v c) e is)))
        ]
      ];
    }
      where
        of : (c : ℕ) → (c ≡ w) ⊎ (c ≡ k) → OfCluster rows w c
        of c (inl e) = inl e
        of c (inr e) = inr (subst (λ (g : ℕ). IsForced rows w g) (sym e) forced)

        by_new : IsClusterBy calls rows w new.by
        by_new = elim wide.by [
          | inl e ↦ subst (λ (m : ℕ). IsClusterBy calls rows w m) (sym e) (told.by w old there)
          | inr q ↦ inr ((k, forced), (q.0, of q.0 q.1, q.2))
        ]

        from_new : IsClusterFrom calls rows w new.from
        from_new = elim wide.from [
          | inl e ↦ subst (λ (m : ℕ). IsClusterFrom calls rows w m) (sym e) (told.from w old there)
          | inr q ↦ inr (q.0, ((k, forced), (q.1.0, of q.1.0 q.1.1, q.1.2)))
        ]

        at_new : (g : ℕ) → g < k + 1 → IsForced rows w g → Covers calls new w × Covers calls new g
        at_new g less is = elim (below g k less) [
          | inl h ↦ (wide.one, covers_more old new g wide.less wide.more (told.covers w g old there h is).1)
          | inr e ↦ (wide.one, subst (λ (c : ℕ). Covers calls new c) (sym e) wide.other)
        ]
