-- Rows of the calls that may write each value.
use Rattle.std.proofs.Common.{◌≡◌, ◌⊎◌, inl, inr, ℕ, zero, suc, ◌+◌, ◌-◌, ◌<◌, ◌≤◌, Option, Some, None, List, [], ◌∷◌, ◌++◌, length, refl, sym, ◌∙◌, ap, subst, arith}
use Rattle.std.specs.Prelude.{ℤ}
use Rattle.std.specs.List.{slice_get}
use Rattle.std.specs.List.Sorted.{IsPermutation, IsNonDecreasingBy}
use Rattle.std.specs.Prelude.{slice_index_or}
use Rattle.std.proofs.lemmas.Bool.{cases_lt}
use Rattle.std.proofs.lemmas.List.Sorted.{Contains-permutation}
use Rattle.std.proofs.lemmas.Option.{slice_get-get_or, get_or_from_slice_get, slice_get_within}
use Rattle.lin_object.specs.declared.op.Op.{Op}
use Rattle.lin_object.specs.declared.reply.Reply.{Reply}
use Rattle.lin_history.specs.declared.problems.problem.ProblemCall.{ProblemCall}
use Rattle.lin_ahead.specs.declared.values.writers.Writer.{Writer}
use Rattle.lin_ahead.specs.declared.values.writers.TheConstants.{MOST_OWNERS}
use Rattle.lin_ahead.specs.Values.Register.{value_written}
use Rattle.lin_ahead.specs.Values.PossibleOwners.{Writes, AreTooMany}
use Rattle.lin_ahead.specs.Values.Writers.{low_by, returned_or_beyond, IsRowOf, HaveAllRows, AreInOrder, NoneLater, IsRun, AreRuns}

one : {A : Type 0} (x y : A) → Some x ≡ Some y → x ≡ y
one x y e = cc

-- ---- where the rows of a value begin

-- by the index of a value, as the value is passed on and as it was
pub by_index : (lows : List ℕ) (index : ℤ → Option ℕ) (a b : ℤ) (o : Option ℕ) → a ≡ b → o ≡ index a → low_by lows o ≡ low_by lows (index b)
by_index lows index a b o same e = ap (low_by lows) (e ∙ ap index same)

-- ---- the rows of the first calls

module _ {X : Type 0} where
  moved : (xs ys : List X) → IsPermutation xs ys → (i : ℕ) (x : X) → slice_get xs i ≡ Some x → (j : ℕ) × (slice_get ys j ≡ Some x)
  moved xs ys same i x e =
      let k = Contains-permutation xs ys x same (i, slice_get_within xs i x e, get_or_from_slice_get xs i x x e) in
      (k.0, slice_get-get_or ys k.0 x k.1 ∙ ap Some k.2)

  pub pushed_early : (xs : List X) (x : X) (i : ℕ) (y : X) → slice_get xs i ≡ Some y → slice_get (xs ++ x ∷ []) i ≡ Some y
  pushed_early [] x i y e = absurd (cc)
  pushed_early (z ∷ xs) x zero y e = e
  pushed_early (z ∷ xs) x (suc i) y e = pushed_early xs x i y e

  pub pushed_last : (xs : List X) (x : X) → slice_get (xs ++ x ∷ []) (length xs) ≡ Some x
  pushed_last [] x = refl
  pushed_last (z ∷ xs) x = pushed_last xs x

  pub pushed_either : (xs : List X) (x : X) (i : ℕ) (y : X) → slice_get (xs ++ x ∷ []) i ≡ Some y → (slice_get xs i ≡ Some y) ⊎ ((i ≡ length xs) × (x ≡ y))
  pushed_either [] x zero y e = inr (refl, one x y e)
  pushed_either [] x (suc i) y e = absurd (cc)
  pushed_either (z ∷ xs) x zero y e = inl e
  pushed_either (z ∷ xs) x (suc i) y e = elim (pushed_either xs x i y e) [
    | inl h ↦ inl h
    | inr h ↦ inr (ap suc h.0, h.1)
  ]

module _ (calls : List (ProblemCall Op Reply)) (low : ℤ → Option ℕ) where
  -- so far each call that may write a value with a number has a row
  abbrev pub RowsTo : ℕ → List Writer → Type 0
  RowsTo n rows = (w : ℕ) (v : ℤ) (m : ℕ) (x : ProblemCall Op Reply) → w < n → slice_get calls w ≡ Some x → value_written x.op x.returned ≡ Some v → low v ≡ Some m → (i : ℕ) × (r : Writer) × (slice_get rows i ≡ Some r) × IsRowOf calls v m w r

  -- the row of a call, whatever value it may write
  abbrev RowFor : ℕ → ProblemCall Op Reply → Option Writer → Type 0
  RowFor w x o = (v : ℤ) (m : ℕ) → value_written x.op x.returned ≡ Some v → low v ≡ Some m → o ≡ Some (record { key = m + x.called; call = w; returned = returned_or_beyond x.returned })

  pub no_rows : RowsTo 0 []
  no_rows w v m x less there writes numbered = absurd (omega (arith, less))

  pub row_more : (n : ℕ) (rows : List Writer) (x : ProblemCall Op Reply) (r : Writer) → slice_get calls n ≡ Some x → RowFor n x (Some r) → RowsTo n rows → RowsTo (n + 1) (rows ++ r ∷ [])
  row_more n rows x r here told so_far w v m y less there writes numbered = elim (cases_lt w n) [
    | inl before ↦ (let k = so_far w v m y before there writes numbered in (k.0, k.1, pushed_early rows r k.0 k.1 k.2, k.3))
    | inr from ↦ (
        let at : w ≡ n = omega (arith, less, from) in
        let same : x ≡ y = one x y (sym here ∙ subst (λ (i : ℕ). slice_get calls i ≡ Some y) at there) in
        let is : r ≡ record { key = m + x.called; call = n; returned = returned_or_beyond x.returned } = one r (record { key = m + x.called; call = n; returned = returned_or_beyond x.returned }) (told v m (subst (λ (z : ProblemCall Op Reply). value_written z.op z.returned ≡ Some v) (sym same) writes) numbered) in (
          length rows,
          r,
          pushed_last rows r,
          record {
            one = y;
            there = there;
            writes = writes;
            call = ap (λ (s : Writer). s.call) is ∙ sym at;
            key = ap (λ (s : Writer). s.key) is ∙ ap (λ (z : ProblemCall Op Reply). m + z.called) same;
            returned = ap (λ (s : Writer). s.returned) is ∙ ap (λ (z : ProblemCall Op Reply). returned_or_beyond z.returned) same;
          },
        ))
  ]

  pub row_same : (n : ℕ) (rows : List Writer) (x : ProblemCall Op Reply) → slice_get calls n ≡ Some x → RowFor n x None → RowsTo n rows → RowsTo (n + 1) rows
  row_same n rows x here told so_far w v m y less there writes numbered = elim (cases_lt w n) [
    | inl before ↦ so_far w v m y before there writes numbered
    | inr from ↦ (
        let at : w ≡ n = omega (arith, less, from) in
        let same : x ≡ y = one x y (sym here ∙ subst (λ (i : ℕ). slice_get calls i ≡ Some y) at there) in
        absurd (let e = told v m (subst (λ (z : ProblemCall Op Reply). value_written z.op z.returned ≡ Some v) (sym same) writes) numbered in cc))
  ]

  pub row_more_at : (n : ℕ) (rows : List Writer) (d : ProblemCall Op Reply) (r : Writer) → n < length calls → RowFor n (slice_index_or calls n d) (Some r) → RowsTo n rows → RowsTo (n + 1) (rows ++ r ∷ [])
  row_more_at n rows d r less told so_far = row_more n rows (slice_index_or calls n d) r (slice_get-get_or calls n d less) told so_far

  pub row_same_at : (n : ℕ) (rows : List Writer) (d : ProblemCall Op Reply) → n < length calls → RowFor n (slice_index_or calls n d) None → RowsTo n rows → RowsTo (n + 1) rows
  row_same_at n rows d less told so_far = row_same n rows (slice_index_or calls n d) (slice_get-get_or calls n d less) told so_far

  pub rows_all : (n : ℕ) (rows : List Writer) → length calls ≤ n → RowsTo n rows → HaveAllRows calls low rows
  rows_all n rows all so_far v m numbered w x there writes = so_far w v m x (let k = slice_get_within calls w x there in omega (arith, k, all)) there writes numbered

  pub rows_moved : (rows sorted : List Writer) → IsPermutation rows sorted → HaveAllRows calls low rows → HaveAllRows calls low sorted
  rows_moved rows sorted same have v m numbered w x there writes =
      let k = have v m numbered w x there writes in
      let at = moved rows sorted same k.0 k.1 k.2 in
      (at.0, k.1, at.1, k.3)

-- sorted by their keys
abbrev pub key_of : Writer → ℕ
key_of r = r.key

pub in_order : (rows : List Writer) → IsNonDecreasingBy key_of rows → AreInOrder rows
in_order rows sorted i j r s less here there =
    let k = sorted i j r less (slice_get_within rows j s there) in
    let first : slice_index_or rows i r ≡ r = get_or_from_slice_get rows i r r here in
    let second : slice_index_or rows j r ≡ s = get_or_from_slice_get rows j s r there in
    subst (λ (v : Writer). v.key ≤ s.key) first (subst (λ (v : Writer). (slice_index_or rows i r).key ≤ v.key) second k)

-- ---- rows of calls that returned no later

module _ (rows : List Writer) where
  -- nothing but the row itself
  pub itself : (place : ℕ) → NoneLater rows place place
  itself place j r s from to here there =
      let same : j ≡ place = omega (arith, from, to) in
      let is : r ≡ s = one r s (sym (subst (λ (i : ℕ). slice_get rows i ≡ Some r) same here) ∙ there) in
      (let e : r.returned ≡ s.returned = ap (λ (w : Writer). w.returned) is in omega (arith, e))

  -- and what is under the row in front of them
  pub under_more : (first next place : ℕ) (d e : Writer) → 0 < first → first ≤ place → place < length rows → (slice_index_or rows (first - 1) d).returned ≤ (slice_index_or rows place e).returned → next ≤ first - 1 → NoneLater rows next (first - 1) → NoneLater rows first place → NoneLater rows next place
  under_more first next place d e some up within low behind before after j r s from to here there = elim (cases_lt j first) [
    | inl less ↦ (
        let front : slice_get rows (first - 1) ≡ Some (slice_index_or rows (first - 1) d) = slice_get-get_or rows (first - 1) d (omega (arith, up, within)) in
        let a = before j r (slice_index_or rows (first - 1) d) from (omega (arith, less)) here front in
        let b : slice_index_or rows place e ≡ s = get_or_from_slice_get rows place s e there in
        let k : (slice_index_or rows place e).returned ≡ s.returned = ap (λ (w : Writer). w.returned) b in
        omega (arith, a, low, k))
    | inr more ↦ after j r s more to here there
  ]

  abbrev pub AreUnderTo : List ℕ → Type 0
  AreUnderTo under = (i first : ℕ) → slice_get under i ≡ Some first → (first ≤ i) × NoneLater rows first i

  pub under_pushed : (under : List ℕ) (n first : ℕ) → length under ≡ n → (first ≤ n) × NoneLater rows first n → AreUnderTo under → AreUnderTo (under ++ first ∷ [])
  under_pushed under n first size is so_far i f e = elim (pushed_either under first i f e) [
    | inl there ↦ so_far i f there
    | inr (at, same) ↦ (let k : i ≡ n = at ∙ size in subst (λ (m : ℕ). (f ≤ m) × NoneLater rows f m) (sym k) (subst (λ (m : ℕ). (m ≤ n) × NoneLater rows m n) same is))
  ]

-- ---- how many calls may write the value of a row

module _ (calls : List (ProblemCall Op Reply)) where
  -- the call itself
  pub run_one : (w : ℕ) → IsRun calls w 1
  run_one w v own = record {
    writers = w ∷ [];
    distinct = ((λ h. h), tt);
    more = omega arith;
    each = λ u h. elim h [
      | inl e ↦ (omega (arith, e), subst (λ (i : ℕ). Writes calls v i) (sym e) own)
      | inr none ↦ absurd none
    ];
  }

  -- and those up to one before it
  pub run_more : (u w n : ℕ) → u < w → ((v : ℤ) → Writes calls v w → Writes calls v u) → IsRun calls u n → IsRun calls w (n + 1)
  run_more u w n less goes run v own =
      let k = run v (goes v own) in
      record {
        writers = w ∷ k.writers;
        distinct = ((λ h. (let b = (k.each w h).0 in omega (arith, b, less))), k.distinct);
        more = (let m = k.more in omega (arith, m));
        each = λ c h. elim h [
          | inl e ↦ (omega (arith, e), subst (λ (i : ℕ). Writes calls v i) (sym e) own)
          | inr among ↦ (let q = k.each c among in ((let b = q.0 in omega (arith, b, less)), q.1))
        ];
      }

  -- of which some may be left out
  pub run_kept : (u w n : ℕ) → u < w → ((v : ℤ) → Writes calls v w → Writes calls v u) → IsRun calls u n → IsRun calls w n
  run_kept u w n less goes run v own =
      let k = run v (goes v own) in
      record {
        writers = k.writers;
        distinct = k.distinct;
        more = k.more;
        each = λ c among. (let q = k.each c among in ((let b = q.0 in omega (arith, b, less)), q.1));
      }

  pub run_pushed : (rows : List Writer) (runs : List ℕ) (n run : ℕ) → length runs ≡ n → ((r : Writer) → slice_get rows n ≡ Some r → IsRun calls r.call run) → AreRuns calls rows runs → AreRuns calls rows (runs ++ run ∷ [])
  run_pushed rows runs n run size is so_far i m r e there = elim (pushed_either runs run i m e) [
    | inl before ↦ so_far i m r before there
    | inr (at, same) ↦ subst (λ (k : ℕ). IsRun calls r.call k) same (is r (subst (λ (j : ℕ). slice_get rows j ≡ Some r) (at ∙ size) there))
  ]

  -- the row before that of the call goes with it
  abbrev pub GoWith : ℕ → ℕ → Type 0
  GoWith u w = (u < w) × ((v : ℤ) → Writes calls v w → Writes calls v u)

  front_run : (rows : List Writer) (runs : List ℕ) (place : ℕ) (d : Writer) → 0 < place → place < length rows → length runs ≡ place → AreRuns calls rows runs → IsRun calls (slice_index_or rows (place - 1) d).call (slice_index_or runs (place - 1) 0)
  front_run rows runs place d up within size are = are (place - 1) (slice_index_or runs (place - 1) 0) (slice_index_or rows (place - 1) d) (slice_get-get_or runs (place - 1) 0 (omega (arith, up, size))) (slice_get-get_or rows (place - 1) d (omega (arith, up, within)))

  pub run_next : (rows : List Writer) (runs : List ℕ) (place : ℕ) (d e : Writer) → 0 < place → place < length rows → length runs ≡ place → AreRuns calls rows runs → GoWith (slice_index_or rows (place - 1) d).call (slice_index_or rows place e).call → (r : Writer) → slice_get rows place ≡ Some r → IsRun calls r.call (slice_index_or runs (place - 1) 0 + 1)
  run_next rows runs place d e up within size are goes r there =
      subst (λ (s : Writer). IsRun calls s.call (slice_index_or runs (place - 1) 0 + 1)) (get_or_from_slice_get rows place r e there)
      (run_more (slice_index_or rows (place - 1) d).call (slice_index_or rows place e).call (slice_index_or runs (place - 1) 0) goes.0 goes.1 (front_run rows runs place d up within size are))

  pub run_left : (rows : List Writer) (runs : List ℕ) (place : ℕ) (d e : Writer) → 0 < place → place < length rows → length runs ≡ place → AreRuns calls rows runs → GoWith (slice_index_or rows (place - 1) d).call (slice_index_or rows place e).call → (r : Writer) → slice_get rows place ≡ Some r → IsRun calls r.call (slice_index_or runs (place - 1) 0)
  run_left rows runs place d e up within size are goes r there =
      subst (λ (s : Writer). IsRun calls s.call (slice_index_or runs (place - 1) 0)) (get_or_from_slice_get rows place r e there)
      (run_kept (slice_index_or rows (place - 1) d).call (slice_index_or rows place e).call (slice_index_or runs (place - 1) 0) goes.0 goes.1 (front_run rows runs place d up within size are))

  -- more than are told of
  pub run_many : (rows : List Writer) (runs : List ℕ) (i n : ℕ) (r : Writer) (v : ℤ) → AreRuns calls rows runs → slice_get runs i ≡ Some n → slice_get rows i ≡ Some r → MOST_OWNERS < n → Writes calls v r.call → AreTooMany calls v
  run_many rows runs i n r v are run row many own =
      let k = are i n r run row v own in
      record {
        writers = k.writers;
        distinct = k.distinct;
        more = (let m = k.more in omega (arith, m, many));
        each = λ u among. (k.each u among).1;
      }
