-- Counts over the short lists are the counts over the calls.
use Rattle.std.proofs.Common.{◌≡◌, ℕ, zero, suc, ◌+◌, ◌<◌, ◌≤◌, Bool, true, false, not, ◌&&◌, Option, Some, None, List, [], ◌∷◌, ◌++◌, drop, length, ◌⊎◌, inl, inr, refl, sym, ◌∙◌, ap, subst, filter_map, nat_le, arith}
use Rattle.std.specs.Prelude.{ℤ, slice_get, if◌then◌else◌}
use Rattle.std.specs.Ordering.{int_eq}
use Rattle.std.specs.List.{cons_option}
use Rattle.lin_object.specs.declared.op.Op.{Op}
use Rattle.lin_object.specs.declared.op.Op.TheVariants.{Dequeue}
use Rattle.lin_object.specs.declared.reply.Reply.{Reply}
use Rattle.lin_object.specs.declared.reply.Reply.TheVariants.{Int}
use Rattle.lin_history.specs.declared.problems.problem.ProblemCall.{ProblemCall}
use Rattle.lin_history.specs.Problems.Continuations.{has}
use Rattle.lin_laws.specs.Counting.{counted, how_many}
use Rattle.lin_ahead.specs.declared.queues.counted_rows.Called.{Called}
use Rattle.lin_ahead.specs.declared.queues.counted_rows.Taken.{Taken}
use Rattle.lin_ahead.specs.declared.queues.counted_rows.CountedRow.{CountedRow}
use Rattle.lin_ahead.specs.Items.Takers.{called_by}
use Rattle.lin_ahead.specs.Queues.Slots.{puts_it, may_take, calls_on, put_by, put_at, taker_at, took_by, taken_at, called_puts, lifted_puts, takers_by, taken_by, FoundEmptyBy, IsTooEarly, LacksEnqueues}
use Rattle.lin_ahead.specs.Queues.Hurried.{left_taken, left_taken_after, left_takers}
use Rattle.lin_ahead.specs.Queues.CountedRows.{put_of, taker_of, took_at, taken_when, taken_of, puts_among, takers_among, taken_among, IsCountedRow, AreCountedRows, many, called_until, lifted_among, left_among, is_left_until, left_until, is_back_until, back_until, is_left_back_until, left_back_until, is_left_between, left_between}

-- tests
and_none : (a : Bool) → (a && false) ≡ false
and_none true = refl
and_none false = refl

and_turned : (a b : Bool) → (a && b) ≡ (b && a)
and_turned true b = sym (and_true b)
  where
    and_true : (b : Bool) → (b && true) ≡ b
    and_true true = refl
    and_true false = refl
and_turned false b = sym (and_none b)

last_first : (a b c : Bool) → (a && (b && c)) ≡ (c && (a && b))
last_first true b c = and_turned b c
last_first false b c = sym (and_none c)

grouped : (a b c : Bool) → ((a && b) && c) ≡ (a && (b && c))
grouped true b c = refl
grouped false b c = refl

second_first : (a b c : Bool) → (a && (b && c)) ≡ (b && (a && c))
second_first true b c = refl
second_first false b c = sym (and_none b)

-- what is picked of the calls
abbrev passes : {A : Type 0} → (A → Bool) → Option A → Bool
passes is None = false
passes is (Some x) = is x

one_more : {A : Type 0} (is : A → Bool) (o : Option A) (xs : List A) → many is (cons_option o xs) ≡ counted (passes is o) (many is xs)
one_more is None xs = refl
one_more is (Some x) xs = refl

picked : {A : Type 0} (is : A → Bool) (of : ℕ → Option A) (so : ℕ → Bool) → ((d : ℕ) → passes is (of d) ≡ so d) → (ds : List ℕ) → many is (filter_map of ds) ≡ how_many so ds
picked is of so same [] = refl
picked is of so same (d ∷ ds) = one_more is (of d) (filter_map of ds) ∙ ap (λ (b : Bool). counted b (many is (filter_map of ds))) (same d) ∙ ap (λ (n : ℕ). counted (so d) n) (picked is of so same ds)

if_called : (is : Called → Bool) (b : Bool) (d at : ℕ) → passes is (if b then Some (record { call = d; at = at }) else None) ≡ (b && is (record { call = d; at = at }))
if_called is true d at = refl
if_called is false d at = refl

if_back : (is : Taken → Bool) (event d called number : ℕ) (also b : Bool) → ((by : ℕ) → is (record { call = d; called = called; by = by }) ≡ (nat_le by event && also)) → passes is (taken_when d called (if b then Some number else None)) ≡ ((b && nat_le number event) && also)
if_back is event d called number also true same = same number
if_back is event d called number also false same = refl

took : (is : Taken → Bool) (v : ℤ) (event d called : ℕ) (also : Bool) → ((by : ℕ) → is (record { call = d; called = called; by = by }) ≡ (nat_le by event && also)) → (op : Op) (returned : Option (ℕ × Reply)) → passes is (taken_when d called (took_at v op returned)) ≡ (took_by v event op returned && also)
took is v event d called also same Dequeue (Some (number, Int w)) = if_back is event d called number also (int_eq v w) same
took is v event d called also same op returned = refl

-- the counts
module _ (calls : List (ProblemCall Op Reply)) (v : ℤ) where
  pub puts_called : (event : ℕ) (ds : List ℕ) → called_until event (puts_among calls v ds) ≡ called_puts calls v event ds
  puts_called event = picked (λ (c : Called). nat_le c.at event) (λ d. put_of v d (slice_get calls d)) (λ d. put_by v event (slice_get calls d)) (λ d. at_call d (slice_get calls d))
    where
      at_call : (d : ℕ) (o : Option (ProblemCall Op Reply)) → passes (λ (c : Called). nat_le c.at event) (put_of v d o) ≡ put_by v event o
      at_call d None = refl
      at_call d (Some c) = if_called (λ (c : Called). nat_le c.at event) (puts_it v c.op) d c.called

  pub puts_lifted : (set : List Bool) (ds : List ℕ) → lifted_among set (puts_among calls v ds) ≡ lifted_puts calls set v ds
  puts_lifted set = picked (λ (c : Called). has set c.call) (λ d. put_of v d (slice_get calls d)) (λ d. has set d && put_at v (slice_get calls d)) (λ d. at_call d (slice_get calls d))
    where
      at_call : (d : ℕ) (o : Option (ProblemCall Op Reply)) → passes (λ (c : Called). has set c.call) (put_of v d o) ≡ (has set d && put_at v o)
      at_call d None = sym (and_none (has set d))
      at_call d (Some c) = if_called (λ (c : Called). has set c.call) (puts_it v c.op) d c.called ∙ and_turned (puts_it v c.op) (has set d)

  pub takers_called : (event : ℕ) (ds : List ℕ) → called_until event (takers_among calls v ds) ≡ takers_by calls v event ds
  takers_called event = picked (λ (c : Called). nat_le c.at event) (λ d. taker_of v d (slice_get calls d)) (λ d. taker_at v event (slice_get calls d)) (λ d. at_call d (slice_get calls d))
    where
      at_call : (d : ℕ) (o : Option (ProblemCall Op Reply)) → passes (λ (c : Called). nat_le c.at event) (taker_of v d o) ≡ taker_at v event o
      at_call d None = refl
      at_call d (Some c) = if_called (λ (c : Called). nat_le c.at event) (may_take v c.op c.returned) d c.called

  pub takers_left : (set : List Bool) (event : ℕ) (ds : List ℕ) → left_until set event (takers_among calls v ds) ≡ left_takers calls set v event ds
  takers_left set event = picked (is_left_until set event) (λ d. taker_of v d (slice_get calls d)) (λ d. not (has set d) && taker_at v event (slice_get calls d)) (λ d. at_call d (slice_get calls d))
    where
      at_call : (d : ℕ) (o : Option (ProblemCall Op Reply)) → passes (is_left_until set event) (taker_of v d o) ≡ (not (has set d) && taker_at v event o)
      at_call d None = sym (and_none (not (has set d)))
      at_call d (Some c) = if_called (is_left_until set event) (may_take v c.op c.returned) d c.called ∙ last_first (may_take v c.op c.returned) (nat_le c.called event) (not (has set d))

  pub taken_back : (event : ℕ) (ds : List ℕ) → back_until event (taken_among calls v ds) ≡ taken_by calls v event ds
  taken_back event = picked (is_back_until event) (λ d. taken_of v d (slice_get calls d)) (λ d. taken_at v event (slice_get calls d)) (λ d. at_call d (slice_get calls d))
    where
      at_call : (d : ℕ) (o : Option (ProblemCall Op Reply)) → passes (is_back_until event) (taken_of v d o) ≡ taken_at v event o
      at_call d None = refl
      at_call d (Some c) = took (is_back_until event) v event d c.called (nat_le c.called event) (λ by. refl) c.op c.returned

  pub taken_left : (set : List Bool) (event : ℕ) (ds : List ℕ) → left_back_until set event (taken_among calls v ds) ≡ left_taken calls set v event ds
  taken_left set event = picked (is_left_back_until set event) (λ d. taken_of v d (slice_get calls d)) (λ d. not (has set d) && taken_at v event (slice_get calls d)) (λ d. at_call d (slice_get calls d))
    where
      at_call : (d : ℕ) (o : Option (ProblemCall Op Reply)) → passes (is_left_back_until set event) (taken_of v d o) ≡ (not (has set d) && taken_at v event o)
      at_call d None = sym (and_none (not (has set d)))
      at_call d (Some c) =
          took (is_left_back_until set event) v event d c.called (nat_le c.called event && not (has set d)) (λ by. grouped (nat_le by event) (nat_le c.called event) (not (has set d))) c.op c.returned
          ∙ last_first (took_by v event c.op c.returned) (nat_le c.called event) (not (has set d))

  pub taken_between : (set : List Bool) (since event : ℕ) (ds : List ℕ) → left_between set since event (taken_among calls v ds) ≡ left_taken_after calls set v since event ds
  taken_between set since event = picked (is_left_between set since event) (λ d. taken_of v d (slice_get calls d)) (λ d. not (called_by since (slice_get calls d)) && (not (has set d) && taken_at v event (slice_get calls d))) (λ d. at_call d (slice_get calls d))
    where
      at_call : (d : ℕ) (o : Option (ProblemCall Op Reply)) → passes (is_left_between set since event) (taken_of v d o) ≡ (not (called_by since o) && (not (has set d) && taken_at v event o))
      at_call d None = sym (and_none (not (has set d)))
      at_call d (Some c) =
          took (is_left_between set since event) v event d c.called (not (nat_le c.called since) && (nat_le c.called event && not (has set d)))
          (λ by. ap (λ (b : Bool). not (nat_le c.called since) && b) (grouped (nat_le by event) (nat_le c.called event) (not (has set d))) ∙ second_first (not (nat_le c.called since)) (nat_le by event) (nat_le c.called event && not (has set d)))
          c.op c.returned
          ∙ second_first (took_by v event c.op c.returned) (not (nat_le c.called since)) (nat_le c.called event && not (has set d))
          ∙ ap (λ (b : Bool). not (nat_le c.called since) && b) (last_first (took_by v event c.op c.returned) (nat_le c.called event) (not (has set d)))

-- a row more
at_end : {A : Type 0} (xs : List A) (y : A) (i : ℕ) (z : A) → slice_get (xs ++ y ∷ []) i ≡ Some z → (slice_get xs i ≡ Some z) ⊎ (y ≡ z)
at_end [] y zero z e = inr (cc)
at_end [] y (suc i) z e = absurd (cc)
at_end (x ∷ xs) y zero z e = inl e
at_end (x ∷ xs) y (suc i) z e = at_end xs y i z e

pub row_more : (calls : List (ProblemCall Op Reply)) (rows : List CountedRow) (new : CountedRow) → AreCountedRows calls rows → IsCountedRow calls new → AreCountedRows calls (rows ++ new ∷ [])
row_more calls rows new are is i row e = elim (at_end rows new i row e) [ inl k ↦ are i row k | inr k ↦ subst (λ (r : CountedRow). IsCountedRow calls r) k is ]

-- all are lifted or left
pub lifted_and_left : (set : List Bool) (cs : List Called) → lifted_among set cs + left_among set cs ≡ length cs
lifted_and_left set [] = refl
lifted_and_left set (c ∷ cs) = by (has set c.call) (lifted_and_left set cs)
  where
    by : (b : Bool) → lifted_among set cs + left_among set cs ≡ length cs → counted b (lifted_among set cs) + counted (not b) (left_among set cs) ≡ suc (length cs)
    by true e = omega (arith, e)
    by false e = omega (arith, e)

-- those from a place on that are left are no more than all
pub left_behind : (set : List Bool) (n : ℕ) (cs : List Called) → left_among set (drop n cs) ≤ left_among set cs
left_behind set zero cs = omega arith
left_behind set (suc n) [] = omega arith
left_behind set (suc n) (c ∷ cs) = by (has set c.call) (left_behind set n cs)
  where
    by : (b : Bool) → left_among set (drop n cs) ≤ left_among set cs → left_among set (drop n cs) ≤ counted (not b) (left_among set cs)
    by true e = e
    by false e = omega (arith, e)

-- what the rows show
module _ (calls : List (ProblemCall Op Reply)) (row : CountedRow) (is : IsCountedRow calls row) where
  abbrev these : List ℕ
  these = calls_on row.item 0 calls

  called_puts_are : (event : ℕ) → called_until event row.puts.items ≡ called_puts calls row.item event these
  called_puts_are event = ap (called_until event) is.puts ∙ puts_called calls row.item event these

  lifted_puts_are : (set : List Bool) → lifted_among set row.puts.items ≡ lifted_puts calls set row.item these
  lifted_puts_are set = ap (lifted_among set) is.puts ∙ puts_lifted calls row.item set these

  takers_are : (event : ℕ) → called_until event row.takers.items ≡ takers_by calls row.item event these
  takers_are event = ap (called_until event) is.takers ∙ takers_called calls row.item event these

  taken_are : (event : ℕ) → back_until event row.taken.items ≡ taken_by calls row.item event these
  taken_are event = ap (back_until event) is.taken ∙ taken_back calls row.item event these

  pub left_takers_are : (set : List Bool) (event : ℕ) → left_until set event row.takers.items ≡ left_takers calls set row.item event these
  left_takers_are set event = ap (left_until set event) is.takers ∙ takers_left calls row.item set event these

  pub left_taken_are : (set : List Bool) (event : ℕ) → left_back_until set event row.taken.items ≡ left_taken calls set row.item event these
  left_taken_are set event = ap (left_back_until set event) is.taken ∙ taken_left calls row.item set event these

  pub left_between_are : (set : List Bool) (since event : ℕ) → left_between set since event row.taken.items ≡ left_taken_after calls set row.item since event these
  left_between_are set since event = ap (left_between set since event) is.taken ∙ taken_between calls row.item set since event these

  few_takers : (set : List Bool) (event : ℕ) → called_until event row.takers.items ≤ lifted_among set row.puts.items → takers_by calls row.item event these ≤ lifted_puts calls set row.item these
  few_takers set event few = (let a = takers_are event in let b = lifted_puts_are set in omega (arith, a, b, few))

  more_taken : (set : List Bool) (event : ℕ) → lifted_among set row.puts.items < back_until event row.taken.items → lifted_puts calls set row.item these < taken_by calls row.item event these
  more_taken set event less = (let a = taken_are event in let b = lifted_puts_are set in omega (arith, a, b, less))

  pub lacks : (event : ℕ) → called_until event row.puts.items < back_until event row.taken.items → LacksEnqueues calls
  lacks event less = (row.item, (event, (let a = called_puts_are event in let b = taken_are event in omega (arith, a, b, less))))

pub too_early : (calls : List (ProblemCall Op Reply)) (set : List Bool) (own other : CountedRow) (event : ℕ) → IsCountedRow calls own → IsCountedRow calls other → called_until event own.takers.items ≤ lifted_among set own.puts.items → lifted_among set other.puts.items < back_until event other.taken.items → IsTooEarly calls set own.item
too_early calls set own other event mine others few less = (event, few_takers calls own mine set event few, inl (other.item, more_taken calls other others set event less))

pub before_empty : (calls : List (ProblemCall Op Reply)) (set : List Bool) (own : CountedRow) (event e : ℕ) → IsCountedRow calls own → FoundEmptyBy calls set event e → called_until event own.takers.items ≤ lifted_among set own.puts.items → IsTooEarly calls set own.item
before_empty calls set own event e mine empty few = (event, few_takers calls own mine set event few, inr (e, empty))

-- rows under other names
pub same_rows : (calls others : List (ProblemCall Op Reply)) (rows same : List CountedRow) → others ≡ calls → same ≡ rows → AreCountedRows calls rows → AreCountedRows others same
same_rows calls others rows same e f are i row there = subst (λ (cs : List (ProblemCall Op Reply)). IsCountedRow cs row) (sym e) (are i row (subst (λ (l : List CountedRow). slice_get l i ≡ Some row) f there))
