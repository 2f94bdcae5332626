-- Rows of calls by item, call by call.
use Rattle.std.proofs.Common.{◌≡◌, ◌≢◌, get_or, ℕ, zero, suc, ◌+◌, ◌<◌, ◌≤◌, Bool, true, false, Option, Some, None, List, [], ◌∷◌, ◌++◌, drop, length, ◌⊎◌, inl, inr, refl, sym, ◌∙◌, ap, subst, append_assoc, true≢false, arith}
use Rattle.std.specs.Prelude.{ℤ, slice_get, slice_set, if◌then◌else◌}
use Rattle.std.specs.Ordering.{int_eq}
use Rattle.std.specs.Cmp.{signed_Decides}
use Rattle.std.proofs.Math.Seq.{drop-cons}
use Rattle.std.proofs.lemmas.List.{length-set, append-nil, drop_all}
use Rattle.std.proofs.lemmas.Option.{slice_get_within, slice_get-get_or, get_or_from_slice_get}
use Rattle.lin_object.specs.declared.op.Op.{Op}
use Rattle.lin_object.specs.declared.op.Op.TheVariants.{Enqueue, Dequeue}
use Rattle.lin_object.specs.declared.reply.Reply.{Reply}
use Rattle.lin_object.specs.declared.reply.Reply.TheVariants.{Int}
use Rattle.lin_history.specs.declared.problems.problem.ProblemCall.{ProblemCall}
use Rattle.lin_ahead.specs.declared.queues.item_rows.ItemRow.{ItemRow}
use Rattle.lin_ahead.specs.Items.ItemCalls.{item_of}
use Rattle.lin_ahead.specs.Queues.ItemRows.{IsRowAfter, AreRowsAfter, ArePlaced, AreEmpty}
use Rattle.lin_ahead.specs.Queues.Slots.{concerns, concerns_at, is_open_taker, calls_on, AreItemRows}

-- an element of a list that is written at an index
at_set : {A : Type 0} (xs : List A) (i : ℕ) (y : A) (j : ℕ) (z : A) → slice_get (slice_set xs i y) j ≡ Some z → ((j ≡ i) × (y ≡ z)) ⊎ ((j ≢ i) × (slice_get xs j ≡ Some z))
at_set [] i y j z h = absurd (cc)
at_set (x ∷ xs) zero y zero z h = inl (refl, cc)
at_set (x ∷ xs) zero y (suc j) z h = inr (λ e. absurd (omega (arith, e)), h)
at_set (x ∷ xs) (suc i) y zero z h = inr (λ e. absurd (omega (arith, e)), h)
at_set (x ∷ xs) (suc i) y (suc j) z h = elim (at_set xs i y j z h) [ inl k ↦ inl (ap suc k.0, k.1) | inr k ↦ inr (λ e. k.0 (omega (arith, e)), k.1) ]

pub one : {A : Type 0} (x y : A) → Some x ≡ Some y → x ≡ y
one x y e = cc

as_it_was : (call : ℕ) (b : Bool) (row : ItemRow) → b ≡ false → IsRowAfter call b row row
as_it_was call true row e = absurd (true≢false e)
as_it_was call false row e = record { item = refl; calls = refl }

-- a call that concerns none of the items
pub unconcerned : (call : ℕ) (concerned : ℤ → Bool) (rows : List ItemRow) → ((i : ℕ) (row : ItemRow) → slice_get rows i ≡ Some row → concerned row.item ≡ false) → AreRowsAfter call concerned rows rows
unconcerned call concerned rows none = record {
  count = refl;
  each = λ i a b e f. subst (λ (row : ItemRow). IsRowAfter call (concerned a.item) a row) (one a b (sym e ∙ f)) (as_it_was call (concerned a.item) a (none i a e));
}

-- an item that no row has at the place that is noted
pub not_at : (rows : List ItemRow) (place : ℤ → Option ℕ) (item : ℤ) → ArePlaced rows place → ((i : ℕ) (row : ItemRow) → place item ≡ Some i → slice_get rows i ≡ Some row → row.item ≡ item → ⊥) → (i : ℕ) (row : ItemRow) → slice_get rows i ≡ Some row → int_eq row.item item ≡ false
not_at rows place item placed none i row e = by (int_eq row.item item) refl
  where
    by : (b : Bool) → int_eq row.item item ≡ b → b ≡ false
    by false f = refl
    by true f = absurd (let same = (signed_Decides row.item item).0 f in none i row (subst (λ (v : ℤ). place v ≡ Some i) same (placed i row e)) e same)

-- the row of the item is written
pub written : (call : ℕ) (rows : List ItemRow) (place : ℤ → Option ℕ) (item : ℤ) (at : ℕ) (old new : ItemRow) → ArePlaced rows place → place item ≡ Some at → slice_get rows at ≡ Some old → old.item ≡ item → IsRowAfter call true old new → AreRowsAfter call (λ v. int_eq v item) rows (slice_set rows at new)
written call rows place item at old new placed noted there is after = record { count = length-set rows at new; each = each }
  where
    each : (i : ℕ) (a b : ItemRow) → slice_get rows i ≡ Some a → slice_get (slice_set rows at new) i ≡ Some b → IsRowAfter call (int_eq a.item item) a b
    each i a b e f = elim (at_set rows at new i b f) [
      | inl k ↦ (
          let same : old ≡ a = one old a (sym there ∙ subst (λ (n : ℕ). slice_get rows n ≡ Some a) k.0 e) in
          let so : int_eq a.item item ≡ true = (signed_Decides a.item item).1 (sym (ap (λ (row : ItemRow). row.item) same) ∙ is) in
          subst (λ (c : Bool). IsRowAfter call c a b) (sym so) (subst (λ (row : ItemRow). IsRowAfter call true row b) same (subst (λ (row : ItemRow). IsRowAfter call true old row) k.1 after))
          )
      | inr k ↦ (
          let out : int_eq a.item item ≡ false = other i a (int_eq a.item item) refl e k.0 in
          subst (λ (row : ItemRow). IsRowAfter call (int_eq a.item item) a row) (one a b (sym e ∙ k.1)) (as_it_was call (int_eq a.item item) a out)
          )
    ]
      where
        other : (i : ℕ) (a : ItemRow) (c : Bool) → int_eq a.item item ≡ c → slice_get rows i ≡ Some a → (i ≡ at → ⊥) → c ≡ false
        other i a false f e apart = refl
        other i a true f e apart = absurd (apart (one i at (sym (placed i a e) ∙ ap place ((signed_Decides a.item item).0 f) ∙ noted)))

-- rows after a call are placed as before
pub still_placed : (call : ℕ) (concerned : ℤ → Bool) (old new : List ItemRow) (place : ℤ → Option ℕ) → AreRowsAfter call concerned old new → ArePlaced old place → ArePlaced new place
still_placed call concerned old new place after placed i row e = subst (λ (v : ℤ). place v ≡ Some i) (sym is) (placed i was there)
  where
    was : ItemRow
    was = get_or old i row

    there : slice_get old i ≡ Some was
    there = slice_get-get_or old i row (let w = slice_get_within new i row e in let n = after.count in omega (arith, w, n))

    is : row.item ≡ was.item
    is = (after.each i was row there e).item

-- a call that concerns each item: rows in front of a place have it, and those from there on are as they were
pub record AreAfterTo (call : ℕ) (first rows : List ItemRow) (n : ℕ) : Type 0 where
  pub count : length rows ≡ length first
  pub early : (i : ℕ) (a b : ItemRow) → i < n → slice_get first i ≡ Some a → slice_get rows i ≡ Some b → IsRowAfter call true a b
  pub late : (i : ℕ) (b : ItemRow) → n ≤ i → slice_get rows i ≡ Some b → slice_get first i ≡ Some b

pub next_after : (call : ℕ) (first rows : List ItemRow) (n : ℕ) (old new : ItemRow) → AreAfterTo call first rows n → slice_get rows n ≡ Some old → IsRowAfter call true old new → AreAfterTo call first (slice_set rows n new) (n + 1)
next_after call first rows n old new so_far there after = record {
  count = length-set rows n new ∙ so_far.count;
  early = λ i a b low e f. elim (at_set rows n new i b f) [
    | inl k ↦ (
        let was : slice_get first n ≡ Some old = so_far.late n old (omega arith) there in
        let same : old ≡ a = one old a (sym was ∙ subst (λ (m : ℕ). slice_get first m ≡ Some a) k.0 e) in
        subst (λ (row : ItemRow). IsRowAfter call true row b) same (subst (λ (row : ItemRow). IsRowAfter call true old row) k.1 after)
        )
    | inr k ↦ so_far.early i a b (let apart = k.0 in omega (arith, low, apart)) e k.1
  ];
  late = λ i b up f. elim (at_set rows n new i b f) [
    | inl k ↦ absurd (let at = k.0 in omega (arith, up, at))
    | inr k ↦ so_far.late i b (omega (arith, up)) k.1
  ];
}

pub all_after : (call : ℕ) (first rows : List ItemRow) (n : ℕ) → length rows ≤ n → AreAfterTo call first rows n → AreRowsAfter call (λ v. true) first rows
all_after call first rows n all so_far = record {
  count = so_far.count;
  each = λ i a b e f. so_far.early i a b (let w = slice_get_within rows i b f in omega (arith, w, all)) e f;
}

-- which items a call concerns
of_item : (v w : ℤ) (op : Op) (returned : Option (ℕ × Reply)) → item_of op returned ≡ Some w → concerns v op returned ≡ int_eq v w
of_item v w (Enqueue u) returned e = ap (λ x. int_eq v x) (one u w e)
of_item v w Dequeue (Some (number, Int u)) e = ap (λ x. int_eq v x) (one u w e)
of_item v w op returned e = absurd (cc)

pub of_all : (v : ℤ) (op : Op) (returned : Option (ℕ × Reply)) → is_open_taker op returned ≡ true → concerns v op returned ≡ true
of_all v Dequeue None e = refl
of_all v op returned e = absurd (cc)

of_none : (v : ℤ) (op : Op) (returned : Option (ℕ × Reply)) → item_of op returned ≡ None → is_open_taker op returned ≡ false → concerns v op returned ≡ false
of_none v (Enqueue u) returned e f = absurd (cc)
of_none v Dequeue None e f = absurd (cc)
of_none v Dequeue (Some (number, Int u)) e f = absurd (cc)
of_none v op returned e f = refl

pub concerned_as : (call : ℕ) (f g : ℤ → Bool) (old new : List ItemRow) → ((v : ℤ) → g v ≡ f v) → AreRowsAfter call f old new → AreRowsAfter call g old new
concerned_as call f g old new same after = record {
  count = after.count;
  each = λ i a b e h. subst (λ (c : Bool). IsRowAfter call c a b) (sym (same a.item)) (after.each i a b e h);
}

pub after_item : (call : ℕ) (w u : ℤ) (op : Op) (returned : Option (ℕ × Reply)) (old new : List ItemRow) → item_of op returned ≡ Some w → u ≡ w → AreRowsAfter call (λ v. int_eq v u) old new → AreRowsAfter call (λ v. concerns v op returned) old new
after_item call w u op returned old new e same after = concerned_as call (λ v. int_eq v u) (λ v. concerns v op returned) old new (λ v. of_item v w op returned e ∙ ap (λ (x : ℤ). int_eq v x) (sym same)) after

-- and the same of the call of a number
pub concerned_at : (calls : List (ProblemCall Op Reply)) (call : ℕ) (x : ProblemCall Op Reply) (old new : List ItemRow) → slice_get calls call ≡ Some x → AreRowsAfter call (λ v. concerns v x.op x.returned) old new → AreRowsAfter call (λ v. concerns_at v (slice_get calls call)) old new
concerned_at calls call x old new there after = concerned_as call (λ v. concerns v x.op x.returned) (λ v. concerns_at v (slice_get calls call)) old new (λ v. ap (λ (o : Option (ProblemCall Op Reply)). concerns_at v o) there) after

pub none_at : (calls : List (ProblemCall Op Reply)) (call : ℕ) (rows : List ItemRow) → slice_get calls call ≡ None → AreRowsAfter call (λ v. concerns_at v (slice_get calls call)) rows rows
none_at calls call rows none = unconcerned call (λ v. concerns_at v (slice_get calls call)) rows (λ i row e. ap (λ (o : Option (ProblemCall Op Reply)). concerns_at row.item o) none)

pub neither_at : (calls : List (ProblemCall Op Reply)) (call : ℕ) (x : ProblemCall Op Reply) (rows : List ItemRow) → slice_get calls call ≡ Some x → item_of x.op x.returned ≡ None → is_open_taker x.op x.returned ≡ false → AreRowsAfter call (λ v. concerns_at v (slice_get calls call)) rows rows
neither_at calls call x rows there none closed = concerned_at calls call x rows rows there (unconcerned call (λ v. concerns v x.op x.returned) rows (λ i row e. of_none row.item x.op x.returned none closed))

-- there is a call of each number
some_at : {A : Type 0} (xs : List A) (i : ℕ) → i < length xs → (x : A) × (slice_get xs i ≡ Some x)
some_at [] i h = absurd (omega (arith, h))
some_at (x ∷ xs) zero h = (x, refl)
some_at (x ∷ xs) (suc i) h = some_at xs i (omega (arith, h))

-- each row has the calls so far that concern its item: with those that are left these are all
abbrev pub HaveCallsTo : List (ProblemCall Op Reply) → List ItemRow → ℕ → Type 0
HaveCallsTo calls rows n = (i : ℕ) (row : ItemRow) → slice_get rows i ≡ Some row → row.calls.items ++ calls_on row.item n (drop n calls) ≡ calls_on row.item 0 calls

pub none_so_far : (calls : List (ProblemCall Op Reply)) (rows : List ItemRow) → AreEmpty rows → HaveCallsTo calls rows 0
none_so_far calls rows empty i row e = ap (λ (l : List ℕ). l ++ calls_on row.item 0 calls) (empty i row e)

calls_more : (calls : List (ProblemCall Op Reply)) (old new : List ItemRow) (n : ℕ) (c : ProblemCall Op Reply) → slice_get calls n ≡ Some c → AreRowsAfter n (λ v. concerns v c.op c.returned) old new → HaveCallsTo calls old n → HaveCallsTo calls new (n + 1)
calls_more calls old new n c here after so_far i row e = by (concerns was.item c.op c.returned) grown.calls whole
  where
    was : ItemRow
    was = get_or old i row

    there : slice_get old i ≡ Some was
    there = slice_get-get_or old i row (let w = slice_get_within new i row e in let m = after.count in omega (arith, w, m))

    grown : IsRowAfter n (concerns was.item c.op c.returned) was row
    grown = after.each i was row there e

    rest : List ℕ
    rest = calls_on was.item (n + 1) (drop (n + 1) calls)

    split : drop n calls ≡ c ∷ drop (n + 1) calls
    split = drop-cons calls n c (slice_get_within calls n c here) ∙ ap (λ (x : ProblemCall Op Reply). x ∷ drop (suc n) calls) (get_or_from_slice_get calls n c c here) ∙ ap (λ (m : ℕ). c ∷ drop m calls) (let k : suc n ≡ n + 1 = omega arith in k)

    whole : was.calls.items ++ (if concerns was.item c.op c.returned then n ∷ rest else rest) ≡ calls_on was.item 0 calls
    whole = sym (ap (λ (l : List (ProblemCall Op Reply)). was.calls.items ++ calls_on was.item n l) split) ∙ so_far i was there

    to_row : (was.calls.items ++ rest ≡ calls_on was.item 0 calls) → row.calls.items ≡ was.calls.items → row.calls.items ++ calls_on row.item (n + 1) (drop (n + 1) calls) ≡ calls_on row.item 0 calls
    to_row k same = subst (λ (v : ℤ). row.calls.items ++ calls_on v (n + 1) (drop (n + 1) calls) ≡ calls_on v 0 calls) (sym grown.item) (ap (λ (l : List ℕ). l ++ rest) same ∙ k)

    by : (b : Bool) → row.calls.items ≡ (if b then was.calls.items ++ n ∷ [] else was.calls.items) → was.calls.items ++ (if b then n ∷ rest else rest) ≡ calls_on was.item 0 calls → row.calls.items ++ calls_on row.item (n + 1) (drop (n + 1) calls) ≡ calls_on row.item 0 calls
    by false same k = to_row k same
    by true same k = subst (λ (v : ℤ). row.calls.items ++ calls_on v (n + 1) (drop (n + 1) calls) ≡ calls_on v 0 calls) (sym grown.item) (ap (λ (l : List ℕ). l ++ rest) same ∙ append_assoc was.calls.items (n ∷ []) rest ∙ k)

pub calls_more_at : (calls : List (ProblemCall Op Reply)) (old new : List ItemRow) (n : ℕ) → n < length calls → AreRowsAfter n (λ v. concerns_at v (slice_get calls n)) old new → HaveCallsTo calls old n → HaveCallsTo calls new (n + 1)
calls_more_at calls old new n within after so_far =
    let x = some_at calls n within in
    calls_more calls old new n x.0 x.1 (concerned_as n (λ v. concerns_at v (slice_get calls n)) (λ v. concerns v x.0.op x.0.returned) old new (λ v. sym (ap (λ (o : Option (ProblemCall Op Reply)). concerns_at v o) x.1)) after) so_far

pub all_calls : (calls : List (ProblemCall Op Reply)) (rows : List ItemRow) (n : ℕ) → length calls ≤ n → HaveCallsTo calls rows n → AreItemRows calls rows
all_calls calls rows n all so_far i row e = sym (append-nil row.calls.items) ∙ ap (λ (l : List (ProblemCall Op Reply)). row.calls.items ++ calls_on row.item n l) (sym (drop_all n calls all)) ∙ so_far i row e
