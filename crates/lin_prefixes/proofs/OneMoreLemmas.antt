-- Runs that have room for one call more, and calls that are left out with those that repeat them.
use Rattle.std.specs.Prelude.{slice_index_or, filter, not, remove}
use Rattle.std.proofs.Common.{◌≡◌, ℕ, zero, suc, ◌+◌, ◌<◌, Bool, true, false, cond, List, [], ◌∷◌, ◌++◌, length, length-append, ◌⊎◌, inl, inr, refl, sym, ◌∙◌, ap, subst, arith}
use Rattle.lin_history.specs.Problems.Lists.{In, IsDistinct}
use Rattle.lin_history.specs.Problems.ListLemmas.{apart, distinct_late, in_early, in_either, in_late}
use Rattle.lin_history.specs.Problems.Problem.{Problem}
use Rattle.lin_prefixes.specs.declared.repeated_calls.Twins.{Twins}
use Rattle.lin_prefixes.specs.Prefixes.{AreSplit, AreTwinsOf, IsBeaten, IsRunLacking, IsRunOf, IsWith, Lacks, OneMoreIsBeaten, StandsBefore}
use Rattle.lin_prefixes.proofs.FreedLemmas.{distinct_without, in_with, in_without}
use Rattle.lin_prefixes.proofs.LackLemmas.{lacking_at, with_in}
use Rattle.lin_prefixes.proofs.ListLemmas.{filter_in, in_filter, true_or_not}
use Rattle.lin_prefixes.proofs.SplitLemmas.{some_or_none}

-- ---- a list with one call more

module _ (c : ℕ) (r l : List ℕ) (w : IsWith c r l) where
  with_kept : (x : ℕ) → In x r → In x l
  with_kept x h = subst (In x) (sym w.with_it) (in_with x c w.front w.rest (subst (In x) w.without h))

  with_either : (x : ℕ) → In x l → In x r ⊎ (x ≡ c)
  with_either x h = elim (in_without x c w.front w.rest (subst (In x) w.with_it h)) [ inl k ↦ inl (subst (In x) (sym w.without) k) | inr e ↦ inr e ]

  with_out : IsDistinct l → In c r → ⊥
  with_out d h = (distinct_without c w.front w.rest (subst IsDistinct w.with_it d)).1 (subst (In c) w.without h)

  with_longer : length l ≡ length r + 1
  with_longer =
      let e : length l ≡ length (w.front ++ c ∷ w.rest) = ap length w.with_it in
      let f : length r ≡ length (w.front ++ w.rest) = ap length w.without in
      let g = length-append w.front (c ∷ w.rest) in
      let h = length-append w.front w.rest in
      omega (arith, e, f, g, h)

  lacks_same : (cs : List ℕ) (n : ℕ) → (In c cs → ⊥) → Lacks r cs n → Lacks l cs n
  lacks_same [] n out k = k
  lacks_same (x ∷ xs) n out k = elim k [
    | inl a ↦ inl (with_kept x a.0, lacks_same xs n (λ h. out (inr h)) a.1)
    | inr a ↦ inr ((λ h. elim (with_either x h) [ inl own ↦ a.0 own | inr e ↦ out (inl (sym e)) ]), (a.1.0, a.1.1, lacks_same xs a.1.0 (λ h. out (inr h)) a.1.2))
  ]

  lacks_less : (cs : List ℕ) (n : ℕ) → IsDistinct cs → In c cs → (In c r → ⊥) → Lacks r cs n → (m : ℕ) × (n ≡ suc m) × Lacks l cs m
  lacks_less [] n d h out k = absurd h
  lacks_less (x ∷ xs) n d h out k = elim k [
    | inl a ↦ elim h [
      | inl e ↦ absurd (out (subst (λ (y : ℕ). In y r) (sym e) a.0))
      | inr more ↦ (let m = lacks_less xs n d.1 more out a.1 in (m.0, m.1, inl (with_kept x a.0, m.2)))
    ]
    | inr a ↦ elim h [
      | inl e ↦ (a.1.0, a.1.1, inl (subst (λ (y : ℕ). In y l) e (with_in c r l w), lacks_same xs a.1.0 (λ there. d.0 (subst (λ (y : ℕ). In y xs) e there)) a.1.2))
      | inr more ↦ (
          let m = lacks_less xs a.1.0 d.1 more out a.1.2 in
          (a.1.0, a.1.1, inr ((λ there. elim (with_either x there) [ inl own ↦ a.0 own | inr e ↦ d.0 (subst (λ (y : ℕ). In y xs) (sym e) more) ]), (m.0, m.1, m.2)))
          )
    ]
  ]

-- ---- calls that a test picks out

module _ (f : ℕ → Bool) where
  by_both : (x : ℕ) (l : List ℕ) (P : List ℕ → List ℕ → Type 0) → (f x ≡ true → P (x ∷ filter f l) (filter (λ c. not (f c)) l)) → (f x ≡ false → P (filter f l) (x ∷ filter (λ c. not (f c)) l)) → P (filter f (x ∷ l)) (filter (λ c. not (f c)) (x ∷ l))
  by_both x l P passed failed =
      elim (f x) as (λ b. f x ≡ b → P (cond b (x ∷ filter f l) (filter f l)) (cond (not b) (x ∷ filter (λ c. not (f c)) l) (filter (λ c. not (f c)) l))) [ true ↦ passed | false ↦ failed ] refl

  lacks_parted : (r cs : List ℕ) (n : ℕ) → Lacks r cs n → ((c : ℕ) → In c (filter f cs) → In c r → ⊥) → (m : ℕ) × (n ≡ length (filter f cs) + m) × Lacks r (filter (λ c. not (f c)) cs) m
  lacks_parted r [] n k = λ out. (0, k, refl)
  lacks_parted r (x ∷ xs) n k = by_both x xs (λ those others. ((c : ℕ) → In c those → In c r → ⊥) → (m : ℕ) × (n ≡ length those + m) × Lacks r others m)
      (λ t out. elim k [
        | inl a ↦ absurd (out x (inl refl) a.0)
        | inr a ↦ (let m = lacks_parted r xs a.1.0 a.1.2 (λ c h. out c (inr h)) in (m.0, (let e = a.1.1 in let g = m.1 in omega (arith, e, g)), m.2))
      ])
      (λ t out. elim k [
        | inl a ↦ (let m = lacks_parted r xs n a.1 out in (m.0, m.1, inl (a.0, m.2)))
        | inr a ↦ (let m = lacks_parted r xs a.1.0 a.1.2 out in (suc m.0, (let e = a.1.1 in let g = m.1 in omega (arith, e, g)), inr (a.0, (m.0, refl, m.2))))
      ])

in_at_place : (cs : List ℕ) (i x : ℕ) → i < length cs → x ≡ slice_index_or cs i x → In x cs
in_at_place [] i x within is = absurd (omega (arith, within))
in_at_place (c ∷ cs) zero x within is = inl is
in_at_place (c ∷ cs) (suc i) x within is = inr (in_at_place cs i x (omega (arith, within)) is)

pub removed_in : (cs : List ℕ) (i c : ℕ) → In c (remove cs i) → In c cs
removed_in [] zero c h = h
removed_in [] (suc i) c h = h
removed_in (x ∷ cs) zero c h = inr h
removed_in (x ∷ cs) (suc i) c h = elim h [ inl e ↦ inl e | inr more ↦ inr (removed_in cs i c more) ]

-- ---- runs

module _ {State Op Reply : Type 0} (p : Problem State Op Reply) (k : ℕ) where
  -- Where the runs that lack fewer calls are beaten, so is each that is one of these with one call more.
  pub one_more : (spared others best : List ℕ) (n : ℕ) → AreSplit p k spared others → ((d : ℕ) → d < n → (r : List ℕ) → IsRunLacking p k spared others d r → IsBeaten best r) → (r : List ℕ) → IsRunLacking p k spared others n r → OneMoreIsBeaten p k others best r
  one_more spared others best n s tried r w l c inside run with =
      let out = with_out c r l with run.run.distinct in
      let m = lacks_less c r l with others n (distinct_late spared others s.distinct) inside out w.lacks in
      tried m.0 (let e = m.1 in omega (arith, e)) l (record {
        run = run;
        out = λ x h there. elim (with_either c r l with x there) [ inl own ↦ w.out x h own | inr e ↦ apart x spared others s.distinct h (subst (λ (y : ℕ). In y others) (sym e) inside) ];
        all = λ x h done. elim (w.all x h done) [ inl own ↦ inl (with_kept c r l with x own) | inr o ↦ inr o ];
        lacks = m.2;
      })

  -- So one with a call that repeats another which it lacks is beaten.
  beaten_with_room : (others best r : List ℕ) (next c : ℕ) → OneMoreIsBeaten p k others best r → In next others → StandsBefore p k next c → IsRunOf p k r → In c r → (In next r → ⊥) → IsBeaten best r
  beaten_with_room others best r next c closed inside stands run there out = elim (stands r run there) [
    | inl has ↦ absurd (out has)
    | inr m ↦ (
        let longer = with_longer next r m.0 m.2 in
        elim (closed m.0 next inside m.1 m.2) [ inl less ↦ inl (omega (arith, less, longer)) | inr same ↦ inl (let e = same.0 in omega (arith, e, longer)) ]
        )
  ]

  lacking_parted : (f : ℕ → Bool) (dropped late : List ℕ) (n : ℕ) (r : List ℕ) → IsRunLacking p k dropped late n r → ((c : ℕ) → In c (filter f late) → In c r → ⊥) → (m : ℕ) × (n ≡ length (filter f late) + m) × IsRunLacking p k (dropped ++ filter f late) (filter (λ c. not (f c)) late) m r
  lacking_parted f dropped late n r w out =
      let m = lacks_parted f r late n w.lacks out in (
        m.0,
        m.1,
        record {
          run = w.run;
          out = λ c h there. elim (in_either c dropped (filter f late) h) [ inl a ↦ w.out c a there | inr b ↦ out c b there ];
          all = λ c h done. elim (w.all c h done) [
            | inl a ↦ inl a
            | inr (inl a) ↦ inr (inl (in_early c dropped (filter f late) a))
            | inr (inr a) ↦ elim (true_or_not (f c)) [ inl e ↦ inr (inl (in_late c dropped (filter f late) (in_filter f late c a e))) | inr e ↦ inr (inr (in_filter (λ c. not (f c)) late c a e)) ]
          ];
          lacks = m.2;
        },
      )

  -- Each such run is beaten, or has the next call, or lacks it and all that repeat it.
  pub lacking_twins : (others dropped late removed best : List ℕ) (i next lacking : ℕ) (twins : Twins) (r : List ℕ) → i < length late → next ≡ slice_index_or late i next → removed ≡ remove late i → AreTwinsOf p next removed twins → ((c : ℕ) → In c late → In c others) → (lacking ≡ 0 → ⊥) → OneMoreIsBeaten p k others best r → IsRunLacking p k dropped late lacking r
      → IsBeaten best r ⊎ (IsRunLacking p k dropped removed lacking r ⊎ ((m : ℕ) × (lacking ≡ suc (length twins.again.items + m)) × IsRunLacking p k ((dropped ++ next ∷ []) ++ twins.again.items) twins.others.items m r))
  lacking_twins others dropped late removed best i next zero twins r within is left parted inside some closed w = absurd (some refl)
  lacking_twins others dropped late removed best i next (suc n) twins r within is left parted inside some closed w = elim (lacking_at p k dropped (dropped ++ next ∷ []) late i next (suc n) n r within is refl refl w) [
    | inl has ↦ inr (inl (subst (λ (l : List ℕ). IsRunLacking p k dropped l (suc n) r) (sym left) has))
    | inr lacks ↦ without (subst (λ (l : List ℕ). IsRunLacking p k (dropped ++ next ∷ []) l n r) (sym left) lacks)
  ]
    where
      without : IsRunLacking p k (dropped ++ next ∷ []) removed n r
          → IsBeaten best r ⊎ (IsRunLacking p k dropped removed (suc n) r ⊎ ((m : ℕ) × (suc n ≡ suc (length twins.again.items + m)) × IsRunLacking p k ((dropped ++ next ∷ []) ++ twins.again.items) twins.others.items m r))
      without u = elim (some_or_none (filter parted.test removed) r) [
        | inl (c, h, there) ↦ inl (beaten_with_room others best r next c closed (inside next (in_at_place late i next within is)) (parted.each k c (filter_in parted.test removed c h).1) u.run there (u.out next (in_late next dropped (next ∷ []) (inl refl))))
        | inr none ↦ (
            let m = lacking_parted parted.test (dropped ++ next ∷ []) removed n r u none in
            inr (inr (m.0, ap suc (m.1 ∙ ap (λ (l : List ℕ). length l + m.0) (sym parted.again)), rw (parted.again, parted.others) m.2))
            )
      ]
