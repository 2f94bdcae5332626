-- What is known ahead of a register is right, and all is told: with the cases in which it shows that there is no linearization.
use Rattle.std.proofs.Common.{◌≡◌, ◌≢◌, ◌⊎◌, inl, inr, ℕ, zero, suc, ◌<◌, ◌≤◌, ◌^◌, Bool, true, false, not, Some, List, [], ◌∷◌, length, refl, sym, ◌∙◌, ap, subst, arith, ◌||◌, ◌&&◌, nat_eq, true≢false}
use Rattle.std.specs.Prelude.{ℤ, slice_get, map, IsSomeAnd, IsTrue}
use Rattle.std.specs.List.{list_any}
use Rattle.std.proofs.lemmas.Option.{slice_get_within, slice_get-get_or}
use Rattle.std.proofs.lemmas.List.{length-map}
use lib.ListN.{get_or}
use Rattle.std.proofs.lemmas.Bool.Decides.{eqb_tells}
use Rattle.lin_object.specs.declared.op.Op.{Op}
use Rattle.lin_object.specs.declared.reply.Reply.{Reply}
use Rattle.lin_object.specs.declared.state.ObjState.{ObjState}
use Rattle.lin_object.specs.declared.state.ObjState.TheVariants.{Register}
use Rattle.lin_object.specs.StepLemmas.{state_same}
use Rattle.lin_history.specs.declared.problems.problem.ProblemCall.{ProblemCall}
use Rattle.lin_history.specs.OptionLemmas.{some_and, and_some}
use Rattle.lin_history.specs.Problems.ProblemParts.{ProblemParts}
use Rattle.lin_history.specs.Problems.Problem.{Problem}
use Rattle.lin_history.specs.Problems.AnyProblem.{any_problem}
use Rattle.lin_history.specs.Problems.Precedence.{Before, IsCompleted}
use Rattle.lin_history.specs.Problems.Linearizations.{IsLinearization}
use Rattle.lin_history.specs.Problems.Needs.{NeedNumbers}
use Rattle.lin_ahead.specs.declared.values.owners.Owners.{Owners}
use Rattle.lin_ahead.specs.declared.values.rows.ValuesAhead.{ValuesAhead}
use Rattle.lin_ahead.specs.declared.values.needed_pairs.CallNumbers.{CallNumbers}
use Rattle.lin_ahead.specs.Behind.{AreOtherNeeds, IsRightOfValues}
use Rattle.lin_ahead.specs.Values.Register.{IsOfRegister, value_found}
use Rattle.lin_ahead.specs.Values.NeededPairs.{need_each_other, some_pair}
use Rattle.lin_ahead.specs.Values.Owners.{IsOwnedBy, AreOwners}
use Rattle.lin_ahead.specs.Values.Narrowing.{AreRightRows}
use Rattle.lin_ahead.specs.Values.Balance.{AreTooManyTakers}
use Rattle.lin_ahead.specs.Values.Ranks.{AreRanksBroken}
use Rattle.lin_ahead.specs.Values.TakenTwice.{IsSoleOwner}
use Rattle.lin_ahead.specs.Values.Clusters.{IsForced, OfCluster, Returned, CalledBy, IsClusterBy, IsClusterFrom, NeedsByNumbers, NeedEachOther, AreClusterNumbers, AreNumbersTo, FoundNowhere, is_nowhere}
use Rattle.lin_ahead.specs.Values.ToldOfRegister.{IsToldOfRegister}
use Rattle.lin_ahead.proofs.first.NeedsLemmas.{stands}
use Rattle.lin_ahead.proofs.items.RowLemmas.{through}
use Rattle.lin_ahead.proofs.values.PairLemmas.{Both, both_are, both_told, both_at, or_left, or_right}
use Rattle.lin_ahead.proofs.values.RegisterLemmas.{finds_completed, of_any_register}
use Rattle.lin_ahead.proofs.values.FoundStateLemmas.{find_one_state}
use Rattle.lin_ahead.proofs.values.ClusterLemmas.{Front, front_here, front_both, Owned, Member, owned_in, owner_changed, cluster_front}
use Rattle.lin_ahead.proofs.values.RankLemmas.{broken_in_vain}
use Rattle.lin_ahead.proofs.values.TakenTwiceLemmas.{too_many_in_vain}

-- an element of a list that passes a test
any_at : {A : Type 0} (test : A → Bool) (xs : List A) → list_any test xs ≡ true → (i : ℕ) × (x : A) × (slice_get xs i ≡ Some x) × (test x ≡ true)
any_at test [] e = absurd (cc)
any_at {A} test (x ∷ xs) e = go (test x) refl e (λ f. any_at test xs f)
  where
    go : (b : Bool) → test x ≡ b → (test x || list_any test xs) ≡ true → (list_any test xs ≡ true → (i : ℕ) × (y : A) × (slice_get xs i ≡ Some y) × (test y ≡ true)) → (i : ℕ) × (y : A) × (slice_get (x ∷ xs) i ≡ Some y) × (test y ≡ true)
    go true is f more = (0, x, refl, is)
    go false is f more = (let k = more (rw is at f) in (suc k.0, k.1, k.2, k.3))

or_true : (a b : Bool) → b ≡ true → (a || b) ≡ true
or_true true b e = refl
or_true false b e = e

passes_at : {A : Type 0} (test : A → Bool) (xs : List A) (i : ℕ) (x : A) → slice_get xs i ≡ Some x → test x ≡ true → list_any test xs ≡ true
passes_at test [] i x there e = absurd (cc)
passes_at {A} test (y ∷ xs) zero x there e = (let same : x ≡ y = cc in let f : test y ≡ true = subst (λ (z : A). test z ≡ true) same e in rw f refl)
passes_at test (y ∷ xs) (suc i) x there e = or_true (test y) (list_any test xs) (passes_at test xs i x there e)

either : (a b : Bool) → (a || b) ≡ true → (a ≡ true) ⊎ (b ≡ true)
either true b e = inl refl
either false b e = inr e

-- two places of a list in which stand two that need each other
pair_there : (l : List CallNumbers) → some_pair l ≡ true → (i : ℕ) × (j : ℕ) × (x : CallNumbers) × (y : CallNumbers) × (i ≢ j) × (slice_get l i ≡ Some x) × (slice_get l j ≡ Some y) × Both x y
pair_there [] e = absurd (cc)
pair_there (c ∷ cs) e = elim (either (list_any (need_each_other c) cs) (some_pair cs) e) [
  | inl q ↦ (let k = any_at (need_each_other c) cs q in (0, suc k.0, c, k.1, (λ s. omega (arith, s)), refl, k.2, both_are c k.1 k.3))
  | inr q ↦ (let k = pair_there cs q in (suc k.0, suc k.1, k.2, k.3, (λ s. k.4 (omega (arith, s))), k.5, k.6, k.7))
]

pair_told : (l : List CallNumbers) (i j : ℕ) (x y : CallNumbers) → i ≢ j → slice_get l i ≡ Some x → slice_get l j ≡ Some y → Both x y → some_pair l ≡ true
pair_told [] i j x y other there here both = absurd (cc)
pair_told (c ∷ cs) zero zero x y other there here both = absurd (other refl)
pair_told (c ∷ cs) zero (suc j) x y other there here both =
    let same : x ≡ c = cc in
    or_left (list_any (need_each_other c) cs) (some_pair cs) (passes_at (need_each_other c) cs j y here (both_told c y (both_at x y c y same refl both)))
pair_told (c ∷ cs) (suc i) zero x y other there here both =
    let same : y ≡ c = cc in
    or_left (list_any (need_each_other c) cs) (some_pair cs) (passes_at (need_each_other c) cs i x there (both_told c x (both_at y x c x same refl (both.1, both.0))))
pair_told (c ∷ cs) (suc i) (suc j) x y other there here both =
    or_right (list_any (need_each_other c) cs) (some_pair cs) (pair_told cs i j x y (λ s. other (ap suc s)) there here both)

-- ---- the numbers of clusters

within_rows : (rows : List Owners) (w g : ℕ) → IsForced rows w g → g < length rows
within_rows rows w g forced =
    let row = some_and (slice_get rows g) (λ owners. IsSoleOwner owners (Some w)) forced in
    slice_get_within rows g row.0 row.1

module _ (calls : List (ProblemCall Op Reply)) (rows : List Owners) (numbers : List CallNumbers) (told : AreNumbersTo calls rows (length rows) numbers) where
  by_least : (w : ℕ) (n : CallNumbers) → slice_get numbers w ≡ Some n → (k : ℕ) → k < 2 ^ 32 → IsClusterBy calls rows w k → n.by ≤ k
  by_least w n there k few (inl many) = absurd (omega (arith, few, many))
  by_least w n there k few (inr ((g, forced), (i, inl e, at))) = (told.covers w g n there (within_rows rows w g forced) forced).0.by k (subst (λ (c : ℕ). Returned calls c k) e at)
  by_least w n there k few (inr ((g, forced), (i, inr is, at))) = (told.covers w i n there (within_rows rows w i is) is).1.by k at

  from_greatest : (w : ℕ) (n : CallNumbers) → slice_get numbers w ≡ Some n → (k : ℕ) → IsClusterFrom calls rows w k → k ≤ n.from
  from_greatest w n there k (inl none) = omega (arith, none)
  from_greatest w n there k (inr (few, ((g, forced), (j, inl e, at)))) = (told.covers w g n there (within_rows rows w g forced) forced).0.from k few (subst (λ (c : ℕ). CalledBy calls k c) e at)
  from_greatest w n there k (inr (few, ((g, forced), (j, inr is, at)))) = (told.covers w j n there (within_rows rows w j is) is).1.from k few at

  pub are_cluster_numbers : (needs : NeedNumbers) → needs.by ≡ map (λ (n : CallNumbers). n.by) numbers → needs.from ≡ map (λ (n : CallNumbers). n.from) numbers → AreClusterNumbers calls rows needs
  are_cluster_numbers needs by from = record {
    each_by = ap length by ∙ length-map numbers (λ n. n.by) ∙ told.each;
    each_from = ap length from ∙ length-map numbers (λ n. n.from) ∙ told.each;
    by = λ a m there. (
        let n = through (λ (x : CallNumbers). x.by) numbers a m (rw by at there) in (
          subst (λ (k : ℕ). IsClusterBy calls rows a k) n.2 (told.by a n.0 n.1),
          λ k few is. subst (λ (x : ℕ). x ≤ k) n.2 (by_least a n.0 n.1 k few is),
        ));
    from = λ b m there. (
        let n = through (λ (x : CallNumbers). x.from) numbers b m (rw from at there) in (
          subst (λ (k : ℕ). IsClusterFrom calls rows b k) n.2 (told.from b n.0 n.1),
          λ k is. subst (λ (x : ℕ). k ≤ x) n.2 (from_greatest b n.0 n.1 k is),
        ));
  }

  pub pair_is : some_pair numbers ≡ true → NeedEachOther calls rows
  pair_is e =
      let k = pair_there numbers e in
      let both : Both k.2 k.3 = k.7 in (
        k.0,
        k.1,
        k.4,
        (let w = slice_get_within numbers k.0 k.2 k.5 in let same = told.each in omega (arith, w, same)),
        (let w = slice_get_within numbers k.1 k.3 k.6 in let same = told.each in omega (arith, w, same)),
        (k.2.by, k.3.from, told.by k.0 k.2 k.5, told.from k.1 k.3 k.6, both.0),
        (k.3.by, k.2.from, told.by k.1 k.3 k.6, told.from k.0 k.2 k.5, both.1),
      )

  number_of : (a : ℕ) → a < length calls → (n : CallNumbers) × (slice_get numbers a ≡ Some n)
  number_of a less =
      let nothing : CallNumbers = record { by = 0; from = 0 } in
      (get_or numbers a nothing, slice_get-get_or numbers a nothing (let same = told.each in omega (arith, less, same)))

  few_from : (b n : ℕ) → IsClusterFrom calls rows b n → n ≤ 2 ^ 32
  few_from b n (inl none) = omega (arith, none)
  few_from b n (inr (few, rest)) = few

  less_by : (a b : ℕ) (x y : CallNumbers) → slice_get numbers a ≡ Some x → slice_get numbers b ≡ Some y → NeedsByNumbers calls rows a b → x.by < y.from
  less_by a b x y there here (m, n, by, from, less) =
      let few = few_from b n from in
      let least = by_least a x there m (omega (arith, few, less)) by in
      let greatest = from_greatest b y here n from in
      omega (arith, least, greatest, less)

  pub pair_shown : NeedEachOther calls rows → some_pair numbers ≡ true
  pair_shown (a, b, other, is, too, one, two) =
      let x = number_of a is in
      let y = number_of b too in
      pair_told numbers a b x.0 y.0 other x.1 y.1 (less_by a b x.0 y.0 x.1 y.1 one, less_by b a y.0 x.0 y.1 x.1 two)

-- ---- what is nowhere

pub nowhere_is : (rows : List Owners) → list_any is_nowhere rows ≡ true → FoundNowhere rows
nowhere_is rows e = (let k = any_at is_nowhere rows e in (k.0, and_some (slice_get rows k.0) (λ owners. IsTrue (is_nowhere owners)) k.1 k.2 k.3))

pub nowhere_shown : (rows : List Owners) → FoundNowhere rows → list_any is_nowhere rows ≡ true
nowhere_shown rows (g, h) = (let row = some_and (slice_get rows g) (λ owners. IsTrue (is_nowhere owners)) h in passes_at is_nowhere rows g row.0 row.1 row.2)

no_element : (l : List ℕ) → nat_eq (length l) 0 ≡ true → l ≡ []
no_element [] e = refl
no_element (c ∷ cs) e = elim (eqb_tells (suc (length cs)) 0) [ inl q ↦ absurd (let f = q.1 in omega (arith, f)) | inr q ↦ absurd (true≢false (sym e ∙ q.0)) ]

three_true : (x y z : Bool) → (x && y && z) ≡ true → (x ≡ true) × (y ≡ true) × (z ≡ true)
three_true true true true e = (refl, refl, refl)
three_true true true false e = absurd (cc)
three_true true false z e = absurd (cc)
three_true false y z e = absurd (cc)

not_true : (x : Bool) → not x ≡ true → x ≡ false
not_true true e = absurd (cc)
not_true false e = refl

-- ---- a register

module _ {p : Problem ObjState Op Reply} {start : ℤ} (of : IsOfRegister p start) (exact : (s t : ObjState) → p.same_state s t ≡ true → s ≡ t) (rows : List Owners) (right : AreRightRows p.calls start rows) where
  owners : AreOwners p rows
  owners = right.owned p refl of exact

  completed : (g : ℕ) (row : Owners) → slice_get rows g ≡ Some row → IsTrue row.are_told → IsCompleted p g
  completed g row there is =
      let k = right.found g row there is in
      finds_completed of g k.0 (some_and (slice_get p.calls g) (λ (x : ProblemCall Op Reply). value_found x.op x.returned ≡ Some k.0) k.1)

  row_owned : (g : ℕ) (row : Owners) → slice_get rows g ≡ Some row → IsTrue row.are_told → (calls : List ℕ) → row.calls.items ≡ calls → row.at_start ≡ false → IsOwnedBy p calls false g
  row_owned g row there is calls same none = subst (λ (b : Bool). IsOwnedBy p calls b g) none (subst (λ (l : List ℕ). IsOwnedBy p l row.at_start g) same (owners g row there is))

  forced_owned : (w g : ℕ) → IsForced rows w g → (l : List ℕ) → IsLinearization p l → Owned p l w g
  forced_owned w g forced l whole =
      let row = some_and (slice_get rows g) (λ o. IsSoleOwner o (Some w)) forced in
      owned_in p l whole w g (row_owned g row.0 row.1 row.2.0 (w ∷ []) row.2.1 row.2.2) (completed g row.0 row.1 row.2.0)

  member : (w c : ℕ) → OfCluster rows w c → (l : List ℕ) → IsLinearization p l → Member p l w c
  member w c (inl e) l whole = inl e
  member w c (inr forced) l whole = inr (forced_owned w c forced l whole)

  before : (i j m n : ℕ) → Returned p.calls i m → CalledBy p.calls n j → m < n → Before p i j
  before i j m n at called less =
      let x = some_and (slice_get p.calls i) (λ y. IsSomeAnd y.returned (λ r. r.0 ≡ m)) at in
      let r = some_and x.0.returned (λ q. q.0 ≡ m) x.2 in
      let y = some_and (slice_get p.calls j) (λ z. n ≤ z.called) called in
      let from = y.2 in
      let same = r.2 in
      and_some (slice_get p.calls i) (λ z. IsSomeAnd z.returned (λ q. IsSomeAnd (slice_get p.calls j) (λ c. q.0 < c.called))) x.0 x.1
      (and_some x.0.returned (λ q. IsSomeAnd (slice_get p.calls j) (λ c. q.0 < c.called)) r.0 r.1
      (and_some (slice_get p.calls j) (λ c. r.0.0 < c.called) y.0 y.1 (omega (arith, less, from, same))))

  needs_front : (a b : ℕ) → a ≢ b → NeedsByNumbers p.calls rows a b → (l : List ℕ) → IsLinearization p l → Front l a b
  needs_front a b other (m, n, by, inl none, less) l whole = absurd (omega (arith, none, less))
  needs_front a b other (m, n, inl many, inr (few, rest), less) l whole = absurd (omega (arith, many, few, less))
  needs_front a b other (m, n, inr ((g, forced), (i, of_a, at)), inr (few, ((h, is), (j, of_b, called))), less) l whole =
      cluster_front p exact l whole.continuation a b i j other
      (owner_changed p l a g (forced_owned a g forced l whole)) (owner_changed p l b h (forced_owned b h is l whole))
      (member a i of_a l whole) (member b j of_b l whole) (before i j m n at called less)

  numbers_need : (needs : NeedNumbers) → AreClusterNumbers p.calls rows needs → AreOtherNeeds p needs
  numbers_need needs numbers = record {
    each_by = numbers.each_by;
    each_from = numbers.each_from;
    needed = λ a b m n there here less other l whole early late eq.
        front_here whole.continuation.distinct a b (needs_front a b other (m, n, (numbers.by a m there).0, (numbers.from b n here).0, less) l whole) early late eq;
  }

  nowhere_in_vain : FoundNowhere rows → (l : List ℕ) → IsLinearization p l → ⊥
  nowhere_in_vain (g, h) l whole =
      let row = some_and (slice_get rows g) (λ o. IsTrue (is_nowhere o)) h in
      let one = three_true row.0.are_told (nat_eq (length row.0.calls.items) 0) (not row.0.at_start) row.2 in
      let at = stands l g whole (completed g row.0 row.1 one.0) in
      elim (row_owned g row.0 row.1 one.0 [] (no_element row.0.calls.items one.1) (not_true row.0.at_start one.2) l at.0 at.1 whole at.2) [
        | inl last ↦ last.one_of
        | inr q ↦ true≢false (sym q.0)
      ]

  in_vain : FoundNowhere rows ⊎ (NeedEachOther p.calls rows ⊎ (AreTooManyTakers p.calls rows ⊎ AreRanksBroken p.calls)) → (l : List ℕ) → IsLinearization p l → ⊥
  in_vain (inl nowhere) l whole = nowhere_in_vain nowhere l whole
  in_vain (inr (inl (a, b, other, is, too, one, two))) l whole = front_both whole.continuation.distinct a b (needs_front a b other one l whole) (needs_front b a (λ e. other (sym e)) two l whole)
  in_vain (inr (inr (inl twice))) l whole = too_many_in_vain of exact rows owners twice l whole
  in_vain (inr (inr (inr broken))) l whole = broken_in_vain of broken l whole

module _ {Object : Type 0} (p : ProblemParts Object ObjState Op Reply) where
  -- what is known ahead of a register is right
  pub register_right : (start : ℤ) → p.start ≡ Register start → (ahead : ValuesAhead) → IsToldOfRegister start p.calls ahead → IsRightOfValues (any_problem p) ahead
  register_right start e ahead told =
      let of = of_any_register p start e in
      record {
        needs = numbers_need of state_same ahead.owners.items told.owners ahead.needs told.numbers;
        owners = told.owners.owned (any_problem p) refl of state_same;
        found = find_one_state of ahead.owners.items told.owners;
        in_vain = λ is. in_vain of state_same ahead.owners.items told.owners (told.in_vain is);
      }
