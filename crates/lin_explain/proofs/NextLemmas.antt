-- The calls that could come next, as the loops find them.
use Rattle.std.proofs.Common.{◌≡◌, ℕ, zero, suc, ◌+◌, ◌<◌, ◌≤◌, Bool, true, false, List, [], ◌∷◌, ◌++◌, drop, length, set, get_or, replicate, Option, Some, None, ◌⊎◌, inl, inr, refl, sym, subst, ◌∙◌, arith}
use Rattle.std.specs.Prelude.{IsSomeAnd}
use Rattle.std.specs.List.{slice_get}
use Rattle.std.proofs.lemmas.Bool.Decides.{eqb_tells}
use Rattle.std.proofs.lemmas.List.{get_or-set_same, get_or-set_other}
use Rattle.lin_history.specs.declared.problems.problem.ProblemCall.{ProblemCall}
use Rattle.lin_history.specs.Problems.Continuations.{has}
use Rattle.lin_history.specs.Problems.Lists.{In}
use Rattle.lin_history.specs.Problems.ListLemmas.{has_none, in_early, in_late, in_either}
use Rattle.lin_history.specs.Problems.Problem.{Problem}
use Rattle.lin_history.specs.Problems.Precedence.{Before}
use Rattle.lin_explain.specs.Explanation.{IsRising, IsNextCall, AreNextCalls}
use Rattle.lin_explain.specs.FirstReturn.{LeavesBefore, IsFirstReturn}
use Rattle.lin_explain.proofs.ListLemmas.{drop_at, drop_none, in_at, rising_more, last_or}

-- ---- flags

-- the flags of the calls that the loop has come past
pub record AreFlags (run : List ℕ) (flags : List Bool) (rest : List ℕ) : Type 0 where
  pub set : (c : ℕ) → In c run → (has flags c ≡ true) ⊎ In c rest
  pub only : (c : ℕ) → has flags c ≡ true → In c run

pub flags_none : (run : List ℕ) (n : ℕ) → AreFlags run (replicate n false) run
flags_none run n = record {
  set = λ c h. inr h;
  only = λ c e. absurd (let none = has_none n c in cc);
}

pub flags_more : (run : List ℕ) (flags : List Bool) (i : ℕ) → i < length run → get_or run i 0 < length flags → AreFlags run flags (drop i run) → AreFlags run (set flags (get_or run i 0) true) (drop (i + 1) run)
flags_more run flags i within there f = record { set = set_is; only = only_is }
  where
    set_is : (c : ℕ) → In c run → (has (set flags (get_or run i 0) true) c ≡ true) ⊎ In c (drop (i + 1) run)
    set_is c h = elim (eqb_tells c (get_or run i 0)) [
      | inl same ↦ inl (rw same.1 (get_or-set_same flags (get_or run i 0) true false there))
      | inr other ↦ elim (f.set c h) [
        | inl e ↦ inl (get_or-set_other flags (get_or run i 0) c true false other.1 ∙ e)
        | inr more ↦ elim (subst (λ (x : List ℕ). In c x) (drop_at 0 run i within) more) [ inl e ↦ absurd (other.1 e) | inr late ↦ inr late ]
      ]
    ]

    only_is : (c : ℕ) → has (set flags (get_or run i 0) true) c ≡ true → In c run
    only_is c e = elim (eqb_tells c (get_or run i 0)) [
      | inl same ↦ rw same.1 (in_at run i within)
      | inr other ↦ f.only c (sym (get_or-set_other flags (get_or run i 0) c true false other.1) ∙ e)
    ]

pub flags_done : (run : List ℕ) (flags : List Bool) (i : ℕ) → length run ≤ i → AreFlags run flags (drop i run) → (c : ℕ) → (has flags c ≡ true → In c run) × (In c run → has flags c ≡ true)
flags_done run flags i over f c = (f.only c, λ h. elim (f.set c h) [ inl e ↦ e | inr more ↦ absurd (subst (λ (x : List ℕ). In c x) (drop_none run i over) more) ])

-- ---- the first return

flag_cases : (b : Bool) → (b ≡ true) ⊎ (b ≡ false)
flag_cases true = inl refl
flag_cases false = inr refl

module _ {Op Reply : Type 0} (calls : List (ProblemCall Op Reply)) (flags : List Bool) where
  pub first_none : IsFirstReturn calls flags 0 None
  first_none number = ((λ h. absurd h), λ there. absurd (let less = there.1 in omega (arith, less)))

  pub first_skip : (n : ℕ) (first : Option ℕ) → has flags n ≡ true → IsFirstReturn calls flags n first → IsFirstReturn calls flags (n + 1) first
  first_skip n first on f number = ((λ h. (let r = (f number).0 h in let less = r.1 in (r.0, omega (arith, less), r.2))), back)
    where
      back : ((a : ℕ) × (a < n + 1) × LeavesBefore calls flags number a) → IsSomeAnd first (λ m. m < number)
      back there = elim (last_or there.0 n there.1) [
        | inl less ↦ (f number).1 (there.0, less, there.2)
        | inr same ↦ absurd (let off : has flags n ≡ false = subst (λ (k : ℕ). has flags k ≡ false) same there.2.0 in cc)
      ]

  pub first_more : (n : ℕ) (first new : Option ℕ) (x : ProblemCall Op Reply) → has flags n ≡ false → slice_get calls n ≡ Some x
      → ((number : ℕ) → (IsSomeAnd new (λ m. m < number) → IsSomeAnd first (λ m. m < number) ⊎ IsSomeAnd x.returned (λ r. r.0 < number)) × (IsSomeAnd first (λ m. m < number) ⊎ IsSomeAnd x.returned (λ r. r.0 < number) → IsSomeAnd new (λ m. m < number)))
      → IsFirstReturn calls flags n first → IsFirstReturn calls flags (n + 1) new
  first_more n first new x off is tells f number = (forth, back)
    where
      forth : IsSomeAnd new (λ m. m < number) → (a : ℕ) × (a < n + 1) × LeavesBefore calls flags number a
      forth h = elim ((tells number).0 h) [
        | inl early ↦ (let r = (f number).0 early in let less = r.1 in (r.0, omega (arith, less), r.2))
        | inr here ↦ (n, omega arith, (off, subst (λ (o : Option (ProblemCall Op Reply)). IsSomeAnd o (λ y. IsSomeAnd y.returned (λ r. r.0 < number))) (sym is) here))
      ]

      back : ((a : ℕ) × (a < n + 1) × LeavesBefore calls flags number a) → IsSomeAnd new (λ m. m < number)
      back there = elim (last_or there.0 n there.1) [
        | inl less ↦ (tells number).1 (inl ((f number).1 (there.0, less, there.2)))
        | inr same ↦ (tells number).1 (inr (here (subst (λ (k : ℕ). IsSomeAnd (slice_get calls k) (λ y. IsSomeAnd y.returned (λ r. r.0 < number))) same there.2.1)))
      ]
        where
          here : IsSomeAnd (slice_get calls n) (λ y. IsSomeAnd y.returned (λ r. r.0 < number)) → IsSomeAnd x.returned (λ r. r.0 < number)
          here h = subst (λ (o : Option (ProblemCall Op Reply)). IsSomeAnd o (λ y. IsSomeAnd y.returned (λ r. r.0 < number))) is h

-- ---- the calls that could come next

some_within : {A : Type 0} (P : A → Type 0) (l : List A) (a : ℕ) → IsSomeAnd (slice_get l a) P → a < length l
some_within P [] a h = absurd h
some_within P (x ∷ xs) zero h = omega arith
some_within P (x ∷ xs) (suc a) h = let less = some_within P xs a h in omega (arith, less)

there_at : {A : Type 0} (l : List A) (a : ℕ) → a < length l → (x : A) × (slice_get l a ≡ Some x)
there_at [] a h = absurd (omega (arith, h))
there_at (x ∷ xs) zero h = (x, refl)
there_at (x ∷ xs) (suc a) h = there_at xs a (omega (arith, h))

module _ {State Op Reply : Type 0} (p : Problem State Op Reply) (run : List ℕ) (flags : List Bool) (first : Option ℕ)
    (flagged : (c : ℕ) → (has flags c ≡ true → In c run) × (In c run → has flags c ≡ true)) (returns : IsFirstReturn p.calls flags (length p.calls) first) where
  -- a call outside the run, called before the first return of those outside the run
  abbrev pub IsEarly : ℕ → Type 0
  IsEarly c = (has flags c ≡ false) × (IsSomeAnd (slice_get p.calls c) (λ x. IsSomeAnd first (λ m. m < x.called)) → ⊥)

  before_number : (a c : ℕ) (y : ProblemCall Op Reply) → slice_get p.calls c ≡ Some y → Before p a c → IsSomeAnd (slice_get p.calls a) (λ x. IsSomeAnd x.returned (λ r. r.0 < y.called))
  before_number a c y is h = subst (λ (o : Option (ProblemCall Op Reply)). IsSomeAnd (slice_get p.calls a) (λ x. IsSomeAnd x.returned (λ r. IsSomeAnd o (λ z. r.0 < z.called)))) is h

  number_before : (a c : ℕ) (y : ProblemCall Op Reply) → slice_get p.calls c ≡ Some y → IsSomeAnd (slice_get p.calls a) (λ x. IsSomeAnd x.returned (λ r. r.0 < y.called)) → Before p a c
  number_before a c y is h = subst (λ (o : Option (ProblemCall Op Reply)). IsSomeAnd (slice_get p.calls a) (λ x. IsSomeAnd x.returned (λ r. IsSomeAnd o (λ z. r.0 < z.called)))) (sym is) h

  at_call : (c : ℕ) (y : ProblemCall Op Reply) → slice_get p.calls c ≡ Some y → IsSomeAnd first (λ m. m < y.called) → IsSomeAnd (slice_get p.calls c) (λ x. IsSomeAnd first (λ m. m < x.called))
  at_call c y is h = subst (λ (o : Option (ProblemCall Op Reply)). IsSomeAnd o (λ x. IsSomeAnd first (λ m. m < x.called))) (sym is) h

  of_call : (c : ℕ) (y : ProblemCall Op Reply) → slice_get p.calls c ≡ Some y → IsSomeAnd (slice_get p.calls c) (λ x. IsSomeAnd first (λ m. m < x.called)) → IsSomeAnd first (λ m. m < y.called)
  of_call c y is h = subst (λ (o : Option (ProblemCall Op Reply)). IsSomeAnd o (λ x. IsSomeAnd first (λ m. m < x.called))) is h

  pub early_next : (c : ℕ) → c < length p.calls → IsEarly c → IsNextCall p run c
  early_next c within early = record {
    there = within;
    outside = λ h. (let on = (flagged c).1 h in let off = early.0 in absurd (cc));
    preceded = preceded;
  }
    where
      preceded : (a : ℕ) → Before p a c → In a run
      preceded a before = elim (flag_cases (has flags a)) [
        | inl on ↦ (flagged a).0 on
        | inr off ↦ (
            let y = there_at p.calls c within in
            let leaves = before_number a c y.0 y.1 before in
            absurd (early.1 (at_call c y.0 y.1 ((returns y.0.called).1 (a, some_within _ p.calls a leaves, (off, leaves)))))
            )
      ]

  pub next_early : (c : ℕ) → IsNextCall p run c → IsEarly c
  next_early c next = (elim (flag_cases (has flags c)) [ inl on ↦ absurd (next.outside ((flagged c).0 on)) | inr off ↦ off ], late)
    where
      late : IsSomeAnd (slice_get p.calls c) (λ x. IsSomeAnd first (λ m. m < x.called)) → ⊥
      late h =
          let y = there_at p.calls c next.there in
          let r = (returns y.0.called).0 (of_call c y.0 y.1 h) in
          let on = (flagged r.0).1 (next.preceded r.0 (number_before r.0 c y.0 y.1 r.2.1)) in
          let off = r.2.0 in
          absurd (cc)

-- the calls below n that could come next
pub record AreNextBelow {State Op Reply : Type 0} (p : Problem State Op Reply) (run : List ℕ) (n : ℕ) (next : List ℕ) : Type 0 where
  pub rises : IsRising next
  pub there : (c : ℕ) → c < n → IsNextCall p run c → In c next
  pub only : (c : ℕ) → In c next → IsNextCall p run c × (c < n)

module _ {State Op Reply : Type 0} (p : Problem State Op Reply) (run : List ℕ) where
  pub next_none : AreNextBelow p run 0 []
  next_none = record {
    rises = tt;
    there = λ c less h. absurd (omega (arith, less));
    only = λ c h. absurd h;
  }

  pub next_skip : (n : ℕ) (next : List ℕ) → (IsNextCall p run n → ⊥) → AreNextBelow p run n next → AreNextBelow p run (n + 1) next
  next_skip n next other a = record {
    rises = a.rises;
    there = λ c less h. elim (last_or c n less) [ inl x ↦ a.there c x h | inr same ↦ absurd (other (subst (IsNextCall p run) same h)) ];
    only = λ c h. (let r = a.only c h in let less = r.1 in (r.0, omega (arith, less)));
  }

  pub next_more : (n : ℕ) (next new : List ℕ) → new ≡ next ++ n ∷ [] → IsNextCall p run n → AreNextBelow p run n next → AreNextBelow p run (n + 1) new
  next_more n next new e here a = rw e (record {
    rises = rising_more next n a.rises (λ d h. (a.only d h).1);
    there = λ c less h. elim (last_or c n less) [ inl x ↦ in_early c next (n ∷ []) (a.there c x h) | inr same ↦ in_late c next (n ∷ []) (inl same) ];
    only = λ c h. elim (in_either c next (n ∷ []) h) [
      | inl old ↦ (let r = a.only c old in let less = r.1 in (r.0, omega (arith, less)))
      | inr (inl same) ↦ (subst (IsNextCall p run) (sym same) here, omega (arith, same))
      | inr (inr none) ↦ absurd none
    ];
  })

  pub next_done : (n : ℕ) (next : List ℕ) → length p.calls ≤ n → AreNextBelow p run n next → AreNextCalls p run next
  next_done n next over a = record {
    rises = a.rises;
    there = λ c h. a.there c (let less = h.there in omega (arith, less, over)) h;
    only = λ c h. (a.only c h).0;
  }
