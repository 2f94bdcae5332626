-- Which calls are not the one that wrote what a call found, by real time.
use Rattle.std.proofs.Common.{◌≡◌, ◌⊎◌, inl, inr, ℕ, zero, suc, ◌+◌, ◌-◌, ◌<◌, ◌≤◌, ◌^◌, true, false, Option, Some, None, List, [], ◌∷◌, ◌++◌, length, refl, sym, ◌∙◌, ap, subst, arith}
use Rattle.std.specs.Prelude.{ℤ, slice_index_or, nat_eq, IsTrue}
use Rattle.std.specs.List.{slice_get}
use Rattle.std.proofs.lemmas.Bool.{cases_lt}
use Rattle.std.proofs.lemmas.Option.{slice_get-get_or, slice_get_within}
use Rattle.lin_object.specs.declared.op.Op.{Op}
use Rattle.lin_object.specs.declared.reply.Reply.{Reply}
use Rattle.lin_history.specs.declared.problems.problem.ProblemCall.{ProblemCall}
use Rattle.lin_history.specs.OptionLemmas.{and_some, some_and}
use Rattle.lin_history.specs.Problems.Lists.{In, IsDistinct}
use Rattle.lin_history.specs.Problems.ListLemmas.{in_early, in_late}
use Rattle.lin_ahead.specs.declared.values.breaking_calls.Finder.{Finder}
use Rattle.lin_ahead.specs.declared.values.owners.Owners.{Owners}
use Rattle.lin_ahead.specs.declared.values.writers.Writer.{Writer}
use Rattle.lin_ahead.specs.declared.values.writers.TheConstants.{MOST_OWNERS}
use Rattle.lin_ahead.specs.Values.Register.{value_written, value_found}
use Rattle.lin_ahead.specs.Values.Narrowing.{ShowsFound}
use Rattle.lin_ahead.specs.Values.PossibleOwners.{breaks, ReturnedBefore, Breaks, IsNoOwner, IsNotFromStart, AreOwnersOf, AreOwnerRows, Writes, AreTooMany, IsTold, AreToldWhereFew}
use Rattle.lin_ahead.proofs.values.WriterLemmas.{pushed_early, pushed_last, pushed_either}
use Rattle.lin_ahead.specs.Values.Writers.{returned_or_beyond, AreUnder, IsRowOf, HasAllRows, IsFinder, IsBroken, IsSince, NoOwners, AreListedFrom}

one : {A : Type 0} (x y : A) → Some x ≡ Some y → x ≡ y
one x y e = cc

module _ (calls : List (ProblemCall Op Reply)) where
  returned_before : (a b : ℕ) (x y : ProblemCall Op Reply) (r : ℕ × Reply) → slice_get calls a ≡ Some x → x.returned ≡ Some r → slice_get calls b ≡ Some y → r.0 < y.called → ReturnedBefore calls a b
  returned_before a b x y r there back here less = and_some (slice_get calls a) _ x there (and_some x.returned _ r back (and_some (slice_get calls b) _ y here less))

  breaks_it : (c : ℕ) (v : ℤ) (x : ProblemCall Op Reply) → slice_get calls c ≡ Some x → breaks v x.op x.returned ≡ true → Breaks calls c v
  breaks_it c v x there is = and_some (slice_get calls c) _ x there is

  -- the call that breaks the value returned before the finder was called
  broken_before : (f : Finder) (since : ℕ) → IsFinder calls f → (b : IsBroken calls f since) → ReturnedBefore calls b.call f.call
  broken_before f since finder b = returned_before b.call f.call b.one finder.one b.back b.there b.returns finder.there (let h = b.before in let e = finder.called in omega (arith, h, e))

  -- the row of a call that returned before the event
  returned_at : (o : Option (ℕ × Reply)) (n since : ℕ) → n ≡ returned_or_beyond o → n < since → since < 2 ^ 32 → (r : ℕ × Reply) × (o ≡ Some r) × (r.0 < since)
  returned_at None n since e less few = absurd (omega (arith, e, less, few))
  returned_at (Some r) n since e less few = (r, refl, omega (arith, e, less))

  -- a call that returned before one that breaks the value
  pub broken_since : (f : Finder) (w since : ℕ) (r : Writer) → IsFinder calls f → IsBroken calls f since → IsRowOf calls f.value f.low w r → r.returned < since → IsNoOwner calls f.value f.call w
  broken_since f w since r finder b row less =
      let k = returned_at row.one.returned r.returned since row.returned less b.few in
      inr (inr (b.call, returned_before w b.call row.one b.one k.0 row.there k.1 b.there (let h = k.2 in let e = b.called in omega (arith, h, e)), broken_before f since finder b, breaks_it b.call f.value b.one b.there b.breaking))

  -- a call that was called after the finder returned
  pub called_after : (f : Finder) (w : ℕ) (r : Writer) → IsFinder calls f → IsRowOf calls f.value f.low w r → f.high < r.key → IsNoOwner calls f.value f.call w
  called_after f w r finder row more = inr (inl (returned_before f.call w finder.one row.one finder.back finder.there finder.returns row.there (let a = finder.high in let b = row.key in omega (arith, a, b, more))))

  -- the finder itself
  pub is_finder : (f : Finder) (w : ℕ) (r : Writer) → IsRowOf calls f.value f.low w r → r.call ≡ f.call → IsNoOwner calls f.value f.call w
  is_finder f w r row same = inl (sym row.call ∙ same)

  -- ---- the walk along the rows

  -- what an index of a vector reads
  pub got : {X : Type 0} (xs : List X) (i : ℕ) (x : X) → i < length xs → x ≡ slice_index_or xs i x → slice_get xs i ≡ Some x
  got xs i x within is = slice_get-get_or xs i x within ∙ ap Some (sym is)

  -- rows under one that returned before a call that breaks the value
  pub none_under : (f : Finder) (rows : List Writer) (under : List ℕ) (place since : ℕ) (row : Writer) (next : ℕ) → 0 < place → AreUnder rows under → IsFinder calls f → IsSince calls f since → slice_get rows (place - 1) ≡ Some row → slice_get under (place - 1) ≡ Some next → row.returned < since → (next ≤ place) × NoOwners calls f rows next place
  none_under f rows under place since row next first links finder broken here there less =
      let k = links.none (place - 1) next there in
      let low = k.0 in
      (omega (arith, low, first), λ i w r from to at own. (let e = k.1 i r row from (omega (arith, to)) at here in broken_since f w since r finder (broken (omega (arith, less))) own (omega (arith, e, less))))

  -- the row in front alone
  pub none_at : (f : Finder) (rows : List Writer) (place : ℕ) (row : Writer) → 0 < place → IsFinder calls f → slice_get rows (place - 1) ≡ Some row → (row.call ≡ f.call) ⊎ (f.high < row.key) → (place - 1 ≤ place) × NoOwners calls f rows (place - 1) place
  none_at f rows place row first finder here why = (
    omega arith,
    λ i w r from to at own. (
        let same : i ≡ place - 1 = omega (arith, from, to, first) in
        let is : row ≡ r = one row r (sym here ∙ subst (λ (j : ℕ). slice_get rows j ≡ Some r) same at) in
        elim why [
          | inl e ↦ is_finder f w r own (sym (ap (λ (s : Writer). s.call) is) ∙ e)
          | inr more ↦ called_after f w r finder own (subst (λ (s : Writer). f.high < s.key) is more)
        ]),
  )

  -- behind the keys of the calls that were called before the finder returned
  pub listed_none : (f : Finder) (rows : List Writer) (end : ℕ) (owners : List ℕ) → IsFinder calls f → ((i : ℕ) (r : Writer) → end ≤ i → slice_get rows i ≡ Some r → f.high < r.key) → AreListedFrom calls f rows end owners
  listed_none f rows end owners finder behind i w r from at own = inr (called_after f w r finder own (behind i r from at))

  pub listed_passed : (f : Finder) (rows : List Writer) (next place : ℕ) (owners : List ℕ) → NoOwners calls f rows next place → AreListedFrom calls f rows place owners → AreListedFrom calls f rows next owners
  listed_passed f rows next place owners none listed i w r from at own = elim (cases_lt i place) [
    | inl less ↦ inr (none i w r from less at own)
    | inr more ↦ listed i w r more at own
  ]

  pub listed_pushed : (f : Finder) (rows : List Writer) (place : ℕ) (row : Writer) (owners : List ℕ) → 0 < place → slice_get rows (place - 1) ≡ Some row → AreListedFrom calls f rows place owners → AreListedFrom calls f rows (place - 1) (owners ++ row.call ∷ [])
  listed_pushed f rows place row owners first here listed i w r from at own = elim (cases_lt i place) [
    | inl less ↦ (
        let same : i ≡ place - 1 = omega (arith, less, from, first) in
        let is : row ≡ r = one row r (sym here ∙ subst (λ (j : ℕ). slice_get rows j ≡ Some r) same at) in
        let call : w ≡ row.call = sym own.call ∙ ap (λ (s : Writer). s.call) (sym is) in
        inl (in_late w owners (row.call ∷ []) (inl call)))
    | inr more ↦ elim (listed i w r more at own) [
      | inl h ↦ inl (in_early w owners (row.call ∷ []) h)
      | inr h ↦ inr h
    ]
  ]

  pub listed_all : (f : Finder) (rows : List Writer) (place : ℕ) (owners : List ℕ) → ((i : ℕ) (r : Writer) → i < place → slice_get rows i ≡ Some r → r.key < f.low) → AreListedFrom calls f rows place owners → AreListedFrom calls f rows 0 owners
  listed_all f rows place owners none listed i w r from at own = elim (cases_lt i place) [
    | inl less ↦ absurd (let a = none i r less at in let b = own.key in omega (arith, a, b))
    | inr more ↦ listed i w r more at own
  ]

  -- ---- what is told

  pub not_from_start : (start : ℤ) (f : Finder) (since : ℕ) → IsFinder calls f → IsSince calls f since → 0 < since → IsNotFromStart calls start f.value f.call
  not_from_start start f since finder broken some = let b = broken some in inr (b.call, broken_before f since finder b, breaks_it b.call f.value b.one b.there b.breaking)

  pub are_owners : (start : ℤ) (f : Finder) (rows : List Writer) (owners : Owners) → IsFinder calls f → HasAllRows calls f.value f.low rows → AreListedFrom calls f rows 0 owners.calls.items → (owners.at_start ≡ false → IsNotFromStart calls start f.value f.call) → AreOwnersOf calls start f.call owners
  are_owners start f rows owners finder all listed not_start = record {
    found = f.value;
    finds = (finder.one, finder.there, finder.found);
    each = λ w x there writes. (let k = all w x there writes in listed k.0 w k.1 (omega arith) k.2 k.3);
    start_too = not_start;
  }

  pub not_zero : (n : ℕ) → nat_eq n 0 ≡ false → 0 < n
  not_zero zero e = absurd (cc)
  not_zero (suc n) e = omega arith

  -- the rows with one more
  pub rows_pushed : (start : ℤ) (rows : List Owners) (n : ℕ) (row : Owners) → length rows ≡ n → (IsTrue row.are_told → AreOwnersOf calls start n row) → AreOwnerRows calls start rows → AreOwnerRows calls start (rows ++ row ∷ [])
  rows_pushed start rows n row size told so_far g own e is_told = elim (pushed_either rows row g own e) [
    | inl there ↦ so_far g own there is_told
    | inr (at, same) ↦ (
        let k : n ≡ g = sym (at ∙ size) in
        subst (λ (i : ℕ). AreOwnersOf calls start i own) k (subst (λ (o : Owners). AreOwnersOf calls start n o) same (told (subst (λ (o : Owners). IsTrue o.are_told) (sym same) is_told))))
  ]

  -- ---- the calls that may write a value, by a look at each

  -- so far they are listed
  pub record AreListedTo (v : ℤ) (n : ℕ) (owners : List ℕ) : Type 0 where
    pub distinct : IsDistinct owners
    pub each : (w : ℕ) → In w owners → (w < n) × Writes calls v w
    pub all : (w : ℕ) → w < n → Writes calls v w → In w owners
    pub few : length owners ≤ MOST_OWNERS

  in_pushed : (x : ℕ) (l : List ℕ) (n : ℕ) → In x (l ++ n ∷ []) → In x l ⊎ (x ≡ n)
  in_pushed x [] n (inl e) = inr e
  in_pushed x [] n (inr h) = absurd h
  in_pushed x (y ∷ ys) n (inl e) = inl (inl e)
  in_pushed x (y ∷ ys) n (inr h) = elim (in_pushed x ys n h) [
    | inl among ↦ inl (inr among)
    | inr e ↦ inr e
  ]

  distinct_more : (l : List ℕ) (n : ℕ) → IsDistinct l → ((w : ℕ) → In w l → w < n) → IsDistinct (l ++ n ∷ [])
  distinct_more [] n d less = ((λ h. h), tt)
  distinct_more (x ∷ xs) n d less = (
    (λ h. elim (in_pushed x xs n h) [
      | inl among ↦ d.0 among
      | inr same ↦ (let k = less x (inl refl) in omega (arith, k, same))
    ]),
    distinct_more xs n d.1 (λ w h. less w (inr h)),
  )

  pub listed_first : (v : ℤ) → AreListedTo v 0 []
  listed_first v = record {
    distinct = tt;
    each = λ w among. absurd among;
    all = λ w less own. absurd (omega (arith, less));
    few = omega arith;
  }

  size_more : (l : List ℕ) (n : ℕ) → length (l ++ n ∷ []) ≡ length l + 1
  size_more [] n = refl
  size_more (x ∷ xs) n = (let e = size_more xs n in omega (arith, e))

  pub listed_more : (v : ℤ) (n : ℕ) (owners : List ℕ) → Writes calls v n → length owners < MOST_OWNERS → AreListedTo v n owners → AreListedTo v (n + 1) (owners ++ n ∷ [])
  listed_more v n owners own room k = record {
    distinct = distinct_more owners n k.distinct (λ w among. (k.each w among).0);
    each = λ w among. elim (in_pushed w owners n among) [
      | inl h ↦ (let q = k.each w h in ((let a = q.0 in omega (arith, a)), q.1))
      | inr e ↦ (omega (arith, e), subst (λ (i : ℕ). Writes calls v i) (sym e) own)
    ];
    all = λ w less writes. elim (cases_lt w n) [
      | inl before ↦ in_early w owners (n ∷ []) (k.all w before writes)
      | inr from ↦ in_late w owners (n ∷ []) (inl (omega (arith, less, from)))
    ];
    few = (let e = size_more owners n in omega (arith, e, room));
  }

  pub listed_same : (v : ℤ) (n : ℕ) (owners : List ℕ) → (Writes calls v n → ⊥) → AreListedTo v n owners → AreListedTo v (n + 1) owners
  listed_same v n owners none k = record {
    distinct = k.distinct;
    each = λ w among. (let q = k.each w among in ((let a = q.0 in omega (arith, a)), q.1));
    all = λ w less writes. elim (cases_lt w n) [
      | inl before ↦ k.all w before writes
      | inr from ↦ absurd (none (subst (λ (i : ℕ). Writes calls v i) (let e : w ≡ n = omega (arith, less, from) in e) writes))
    ];
    few = k.few;
  }

  pub listed_too_many : (v : ℤ) (n : ℕ) (owners : List ℕ) → Writes calls v n → MOST_OWNERS ≤ length owners → AreListedTo v n owners → AreTooMany calls v
  listed_too_many v n owners own full k = record {
    writers = owners ++ n ∷ [];
    distinct = distinct_more owners n k.distinct (λ w among. (k.each w among).0);
    more = (let e = size_more owners n in omega (arith, e, full));
    each = λ w among. elim (in_pushed w owners n among) [
      | inl h ↦ (k.each w h).1
      | inr e ↦ subst (λ (i : ℕ). Writes calls v i) (sym e) own
    ];
  }

  pub listed_told : (start v : ℤ) (g n : ℕ) (owners : Owners) → ShowsFound calls v g → length calls ≤ n → AreListedTo v n owners.calls.items → (owners.at_start ≡ false → IsNotFromStart calls start v g) → AreOwnersOf calls start g owners
  listed_told start v g n owners shown end k not_start = record {
    found = v;
    finds = some_and (slice_get calls g) (λ (x : ProblemCall Op Reply). value_found x.op x.returned ≡ Some v) shown;
    each = λ w x there writes. inl (k.all w (let a = slice_get_within calls w x there in omega (arith, a, end)) (and_some (slice_get calls w) (λ (y : ProblemCall Op Reply). value_written y.op y.returned ≡ Some v) x there writes));
    start_too = not_start;
  }

  -- ---- which calls are told

  -- so far owners are told of each call that found a value, where they are not too many
  abbrev pub AreToldTo : ℕ → List Owners → Type 0
  AreToldTo n rows = (g : ℕ) (v : ℤ) → g < n → ShowsFound calls v g → IsTold rows g ⊎ AreTooMany calls v

  told_early : (rows : List Owners) (row : Owners) (g : ℕ) → IsTold rows g → IsTold (rows ++ row ∷ []) g
  told_early rows row g is =
      let k = some_and (slice_get rows g) (λ (o : Owners). IsTrue o.are_told) is in
      and_some (slice_get (rows ++ row ∷ []) g) (λ (o : Owners). IsTrue o.are_told) k.0 (pushed_early rows row g k.0 k.1) k.2

  pub few_pushed : (rows : List Owners) (n : ℕ) (row : Owners) → length rows ≡ n → ((v : ℤ) → ShowsFound calls v n → IsTrue row.are_told ⊎ AreTooMany calls v) → AreToldTo n rows → AreToldTo (n + 1) (rows ++ row ∷ [])
  few_pushed rows n row size told so_far g v less shown = elim (cases_lt g n) [
    | inl before ↦ elim (so_far g v before shown) [
      | inl is ↦ inl (told_early rows row g is)
      | inr many ↦ inr many
    ]
    | inr from ↦ (
        let at : g ≡ n = omega (arith, less, from) in
        elim (told v (subst (λ (i : ℕ). ShowsFound calls v i) at shown)) [
          | inl is ↦ inl (and_some (slice_get (rows ++ row ∷ []) g) (λ (o : Owners). IsTrue o.are_told) row (subst (λ (i : ℕ). slice_get (rows ++ row ∷ []) i ≡ Some row) (size ∙ sym at) (pushed_last rows row)) is)
          | inr many ↦ inr many
        ])
  ]

  pub few_all : (n : ℕ) (rows : List Owners) → length calls ≤ n → AreToldTo n rows → AreToldWhereFew calls rows
  few_all n rows end told g v shown =
      let k = some_and (slice_get calls g) (λ (x : ProblemCall Op Reply). value_found x.op x.returned ≡ Some v) shown in
      told g v (let a = slice_get_within calls g k.0 k.1 in omega (arith, a, end)) shown
