-- No push of a linearization on a stack is too late by the rows of the calls.
use Rattle.std.proofs.Common.{◌≡◌, ℕ, ◌<◌, ◌≤◌, Bool, true, false, Option, Some, None, List, [], ◌∷◌, ◌++◌, length, ◌⊎◌, inl, inr, refl, sym, ◌∙◌, ap, subst, append_assoc, arith}
use Rattle.std.specs.Prelude.{ℤ, slice_get}
use Rattle.std.specs.Ordering.{int_eq}
use Rattle.indexmap.specs.IndexMap.{get}
use Rattle.lin_object.specs.declared.op.Op.{Op}
use Rattle.lin_object.specs.declared.op.Op.TheVariants.{Pop}
use Rattle.lin_object.specs.declared.reply.Reply.{Reply}
use Rattle.lin_object.specs.declared.reply.Reply.TheVariants.{Okay, Int, Flag, Empty}
use Rattle.lin_object.specs.declared.state.ObjState.{ObjState}
use Rattle.lin_object.specs.declared.state.ObjState.TheVariants.{Stack}
use Rattle.lin_history.specs.declared.problems.problem.ProblemCall.{ProblemCall}
use Rattle.lin_history.specs.OptionLemmas.{some_and, and_some}
use Rattle.lin_history.specs.Problems.Problem.{Problem}
use Rattle.lin_history.specs.Problems.ProblemParts.{ProblemParts, AreTimed}
use Rattle.lin_history.specs.Problems.Lists.{In, IsDistinct}
use Rattle.lin_history.specs.Problems.ListLemmas.{apart, in_either}
use Rattle.lin_history.specs.Problems.LegalLists.{Legal}
use Rattle.lin_history.specs.Problems.Precedence.{Before}
use Rattle.lin_history.specs.Problems.Continuations.{has, IsCompletion}
use Rattle.lin_history.specs.Problems.Linearizations.{IsLinearization}
use Rattle.lin_search.specs.CallSetLemmas.{no_calls_has}
use Rattle.lin_ahead.specs.declared.items.late_pushes.LateRows.{LateRows}
use Rattle.lin_ahead.specs.declared.stacks.rows.StackAhead.{StackAhead}
use Rattle.lin_history.specs.Problems.AnyProblem.{any_problem}
use Rattle.lin_ahead.specs.Behind.{IsRightOfStack}
use Rattle.lin_ahead.specs.Items.ItemCalls.{told, told_in}
use Rattle.lin_ahead.specs.Items.Late.{LeadsBeyond, IsLate, NoneIsLate}
use Rattle.lin_ahead.specs.Items.Numbers.{ReturnsAt, CalledFrom, IsFrom}
use Rattle.lin_ahead.specs.Queues.Queue.{Item, MayTake, OnlyPuts}
use Rattle.lin_laws.specs.Items.{Took, Pushes, Popped}
use Rattle.lin_ahead.specs.Stacks.Stack.{FoundEmpty, OnlyPushes}
use Rattle.lin_ahead.specs.Queues.ToldOfQueue.{takers_from}
use Rattle.lin_ahead.specs.Stacks.ToldOfStack.{exchanged_op, exchanged_call, exchanged_calls, popped_once_row, found_empty, found_empty_row, AreLateRows}
use Rattle.lin_ahead.proofs.items.ChainLemmas.{IsPoppedFrom, IsDeadlineAt, IsHeldFrom, HeldRules, numbers, legal_split}
use Rattle.lin_ahead.proofs.items.OnceLemmas.{there_once}
use Rattle.lin_ahead.proofs.stacks.OwedStackLemmas.{still_stack}
use Rattle.lin_ahead.proofs.first.PlaceLemmas.{distinct_late}
use Rattle.lin_ahead.proofs.items.RowLemmas.{through, seen_through, from_row_is}
use Rattle.lin_laws.specs.Exact.{IsExact}
use Rattle.lin_ahead.proofs.stacks.StackLemmas.{MayPop}
use Rattle.lin_ahead.proofs.stacks.StackRowLemmas.{as_queue, pushes_puts, puts_pushes, took_popped, exact_any, are_owed}

-- the calls exchanged are timed as they are
timed_exchanged : (calls : List (ProblemCall Op Reply)) → AreTimed calls → AreTimed (exchanged_calls calls)
timed_exchanged calls timed = record {
  called = λ a b x y less here there. (
      let k = through exchanged_call calls a x here in
      let l = through exchanged_call calls b y there in
      let e : k.0.called ≡ x.called = ap (λ (z : ProblemCall Op Reply). z.called) k.2 in
      let f : l.0.called ≡ y.called = ap (λ (z : ProblemCall Op Reply). z.called) l.2 in
      let g = timed.called a b k.0 l.0 less k.1 l.1 in
      omega (arith, e, f, g));
  returned = λ a x r here back. (
      let k = through exchanged_call calls a x here in
      let e : k.0.called ≡ x.called = ap (λ (z : ProblemCall Op Reply). z.called) k.2 in
      let g = timed.returned a k.0 r k.1 (ap (λ (z : ProblemCall Op Reply). z.returned) k.2 ∙ back) in
      omega (arith, e, g));
  apart = λ a b x y r here there back same. (
      let k = through exchanged_call calls a x here in
      let l = through exchanged_call calls b y there in
      let f : l.0.called ≡ y.called = ap (λ (z : ProblemCall Op Reply). z.called) l.2 in
      timed.apart a b k.0 l.0 r k.1 l.1 (ap (λ (z : ProblemCall Op Reply). z.returned) k.2 ∙ back) (same ∙ sym f));
}

-- a flagged call found the stack empty
empty_op : (op : Op) (back : Option (ℕ × Reply)) → found_empty op back ≡ true → (op ≡ Pop) × ((n : ℕ) × (back ≡ Some (n, Empty)))
empty_op Pop (Some (n, Empty)) e = (refl, (n, refl))
empty_op Pop None e = absurd (cc)
empty_op Pop (Some (n, Okay)) e = absurd (cc)
empty_op Pop (Some (n, Int v)) e = absurd (cc)
empty_op Pop (Some (n, Flag b)) e = absurd (cc)
empty_op op back e = absurd (cc)

module _ (p : Problem ObjState Op Reply) where
  found_none : (z : ℕ) → slice_get (found_empty_row p.calls) z ≡ Some true → FoundEmpty p z
  found_none z flag =
      let k = through (λ (c : ProblemCall Op Reply). found_empty c.op c.returned) p.calls z true flag in
      let is = empty_op k.0.op k.0.returned k.2 in
      (k.0, k.1, is.0, is.1)

  called_back : (n j : ℕ) → CalledFrom (as_queue p) n j → CalledFrom p n j
  called_back n j from =
      let k = some_and (slice_get (exchanged_calls p.calls) j) (λ (y : ProblemCall Op Reply). n ≤ y.called) from in
      let x = through exchanged_call p.calls j k.0 k.1 in
      let e : x.0.called ≡ k.0.called = ap (λ (z : ProblemCall Op Reply). z.called) x.2 in
      and_some (slice_get p.calls j) (λ (y : ProblemCall Op Reply). n ≤ y.called) x.0 x.1 (let h = k.2 in omega (arith, e, h))

  may_take : (j : ℕ) (v : ℤ) → MayPop p j v → MayTake (as_queue p) j v
  may_take j v (x, there, op, pops) = (exchanged_call x, seen_through exchanged_call p.calls j x there, ap exchanged_op op, pops)

  -- what one call alone pushes, and that one is not lifted, is not among these items, and no call of the set returned with it
  abbrev OnceIn : List Bool → List ℤ → Type 0
  OnceIn set items = (c : ℕ) (v : ℤ) → Pushes p c v → has set c ≡ false → OnlyPushes p c v → (Item v items → ⊥) × ((j : ℕ) → Popped p j v → has set j ≡ false)

  -- a push with a number: its item is popped by a call that was called at that event or later
  module _ (late : LateRows) (rows : AreLateRows p.calls late) (timed : AreTimed p.calls) (set : List Bool) (items : List ℤ) (once : OnceIn set items) where
    popper_from : (c n : ℕ) (v : ℤ) → Pushes p c v → has set c ≡ false → ((j : ℕ) → Took (as_queue p) j v → CalledFrom (as_queue p) n j × ((m : ℕ) → ReturnsAt (as_queue p) j m → n ≤ m)) → ((j : ℕ) → MayTake (as_queue p) j v → CalledFrom (as_queue p) n j) ⊎ (OnlyPuts (as_queue p) c v × (Item v [] → ⊥) × ((j : ℕ) × Took (as_queue p) j v)) → IsPoppedFrom p set items n c v
    popper_from c n v pushes out bounds (inl all) = inl (λ j free may. called_back n j (all j (may_take j v may)))
    popper_from c n v pushes out bounds (inr (only, fresh, (j, took))) =
        let is_only : OnlyPushes p c v = λ d put. only d (pushes_puts p d v put) in
        let k = once c v pushes out is_only in
        let popped = took_popped p j v took in
        inr ((λ d put free. is_only d put), k.0, (j, k.1 j popped, popped, called_back n j (bounds j took).0))

    popped_from : (c n m : ℕ) → slice_get late.from.items c ≡ Some n → m < n → has set c ≡ false → (v : ℤ) × Pushes p c v × IsPoppedFrom p set items n c v
    popped_from c n m there less out = go (from_row_is (as_queue p) (timed_exchanged p.calls timed) c n (subst (λ (l : List ℕ). slice_get l c ≡ Some n) rows.from there))
      where
        go : IsFrom (as_queue p) [] c n → (v : ℤ) × Pushes p c v × IsPoppedFrom p set items n c v
        go (inl none) = absurd (omega (arith, none, less))
        go (inr (few, (v, puts, bounds, which))) =
            let pushes = puts_pushes p c v puts in
            (v, pushes, popper_from c n v pushes out bounds which)

module _ (p : Problem ObjState Op Reply) (exact : IsExact p) (starts : p.start ≡ Stack []) where
  -- the calls from one on complete those before it
  completes : (l early rest : List ℕ) (b : ℕ) (set : List Bool) → IsLinearization p l → l ≡ early ++ b ∷ rest → ((c : ℕ) → (has set c ≡ true → In c early) × (In c early → has set c ≡ true)) → (s t : ObjState) → Legal p s (b ∷ rest) t → IsCompletion p set s (b ∷ rest)
  completes l early rest b set whole eq set_is s t legal = record {
    continuation = record {
      distinct = distinct_late early (b ∷ rest) all_distinct;
      outside = λ c there. outside c there (has set c) refl;
      legal = (t, legal);
      ordered = ordered;
    };
    complete = λ c done. elim (whole.complete c done) [
      | inl none ↦ absurd (let no = no_calls_has (length p.calls) c in cc)
      | inr q ↦ elim (in_either c early (b ∷ rest) (subst (λ (k : List ℕ). In c k) eq q)) [
        | inl r ↦ inl ((set_is c).1 r)
        | inr r ↦ inr r
      ]
    ];
  }
    where
      all_distinct : IsDistinct (early ++ b ∷ rest)
      all_distinct = subst IsDistinct eq whole.continuation.distinct

      outside : (c : ℕ) → In c (b ∷ rest) → (h : Bool) → has set c ≡ h → has set c ≡ false
      outside c there true e = absurd (apart c early (b ∷ rest) all_distinct ((set_is c).0 e) there)
      outside c there false e = e

      ordered : (front : List ℕ) (d : ℕ) (late : List ℕ) → b ∷ rest ≡ front ++ d ∷ late → (a : ℕ) → Before p a d → (has set a ≡ true) ⊎ In a front
      ordered front d late e a before = elim (whole.continuation.ordered (early ++ front) d late (eq ∙ ap (λ (k : List ℕ). early ++ k) e ∙ sym (append_assoc early front (d ∷ late))) a before) [
        | inl none ↦ absurd (let no = no_calls_has (length p.calls) a in cc)
        | inr q ↦ elim (in_either a early front q) [ inl r ↦ inl ((set_is a).1 r) | inr r ↦ inr r ]
      ]

  -- a completion that begins with push b, from a stack of these items
  module _ (late : LateRows) (rows : AreLateRows p.calls late) (timed : AreTimed p.calls) (set : List Bool) (items : List ℤ) (once : OnceIn p set items) (b : ℕ) (out : has set b ≡ false) where
    -- the push is held to an event after this one
    abbrev HeldBeyond : ℕ → Type 0
    HeldBeyond m = (n : ℕ) × (m < n) × IsHeldFrom p set items b n × ((v : ℤ) × Pushes p b v)

    rules : HeldRules p set items b
    rules = numbers p exact set items b

    held_beyond : (chain : List ℕ) (m : ℕ) → LeadsBeyond p late set b chain m → HeldBeyond m
    held_beyond [] m (n, there, less) =
        let f = popped_from p late rows timed set items once b n m there less out in
        (n, less, rules.starts f.0 n f.1 f.2, (f.0, f.1))
    held_beyond (d ∷ ds) m ((n, there, less), (k, outside, more)) =
        let before = held_beyond ds k more in
        let f = popped_from p late rows timed set items once d n m there less outside.0 in
        (n, less, rules.grows before.0 k n d f.0 before.2 outside.1 before.1 outside.0 f.1 f.2, before.3)

    one_of : (d a : ℕ) → d ≡ a → (a ≡ b) ⊎ (has set a ≡ true) → has set d ≡ false → d ≡ b
    one_of d a same (inl is) free = same ∙ is
    one_of d a same (inr lifted) free = absurd (let f : has set d ≡ true = subst (λ (n : ℕ). has set n ≡ true) (sym same) lifted in cc)

    deadline_at : (z : ℕ) → has set z ≡ false → (slice_get late.found_empty.items z ≡ Some true) ⊎ ((a : ℕ) × (slice_get late.poppers.items a ≡ Some (Some z)) × ((a ≡ b) ⊎ (has set a ≡ true))) → IsDeadlineAt p set b z
    deadline_at z free (inl flag) = (free, inl (found_none p z (subst (λ (k : List Bool). slice_get k z ≡ Some true) rows.found_empty flag)))
    deadline_at z free (inr (a, there, which)) = let k = rows.poppers a z there in (free, inr (k.0, k.3, λ d put outside. one_of d a (k.2 d put) which outside))

    not_late : (rest : List ℕ) → IsCompletion p set (Stack items) (b ∷ rest) → IsLate p late set b → ⊥
    not_late rest h (m, (z, outside, kind), (chain, leads)) =
        let held = held_beyond chain m leads in
        rules.ends held.3.0 held.0 m z held.2 held.3.1 outside.1 held.1 (deadline_at z outside.0 kind) rest h

  pub none_late : (late : LateRows) → AreLateRows p.calls late → AreTimed p.calls → NoneIsLate p late
  none_late late rows timed l early rest b set whole eq set_is is =
      not_late late rows timed set here.0 once b (h.continuation.outside b (inl refl)) rest h is
    where
      end : ObjState
      end = whole.continuation.legal.0

      all : Legal p (Stack []) (early ++ b ∷ rest) end
      all = subst (λ (k : List ℕ). Legal p (Stack []) k end) eq (subst (λ (s : ObjState). Legal p s l end) starts whole.continuation.legal.1)

      two : (t : ObjState) × Legal p (Stack []) early t × Legal p t (b ∷ rest) end
      two = legal_split p exact early (b ∷ rest) (Stack []) end all

      here : (items : List ℤ) × (two.0 ≡ Stack items)
      here = still_stack p exact early [] two.0 two.1

      h : IsCompletion p set (Stack here.0) (b ∷ rest)
      h = completes l early rest b set whole eq set_is (Stack here.0) end (subst (λ (s : ObjState). Legal p s (b ∷ rest) end) here.1 two.2)

      so_far : Legal p p.start early (Stack here.0)
      so_far = subst (λ (s : ObjState). Legal p s early (Stack here.0)) (sym starts) (subst (λ (t : ObjState). Legal p (Stack []) early t) here.1 two.1)

      once : OnceIn p set here.0
      once c v pushes free only = there_once p exact [] starts set here.0 early so_far set_is c v pushes free only (λ item. item)

module _ {Object : Type 0} (p : ProblemParts Object ObjState Op Reply) where
  -- what is known ahead of a stack is right
  pub stack_right : p.start ≡ Stack [] → (ahead : StackAhead) → ahead.items.takers.items ≡ takers_from 0 (exchanged_calls p.calls) → ahead.items.owed.items ≡ popped_once_row p.calls → AreLateRows p.calls ahead.late → AreTimed p.calls → ahead.on_queue.items ≡ exchanged_calls p.calls → ((v : ℤ) → told_in (get int_eq ahead.items.told) v ≡ told (exchanged_calls p.calls) v) → IsRightOfStack (any_problem p) ahead
  stack_right start ahead takers owed late timed calls items = record {
    start = start;
    owed = rw owed (are_owed p start);
    late = none_late (any_problem p) (exact_any p) start ahead.late late timed;
    calls = (calls, (items, takers));
  }
