-- The rows of a queue's problem are the numbers of its calls.
use Rattle.std.proofs.Common.{◌≡◌, ℕ, ◌<◌, ◌≤◌, ◌^◌, Bool, true, false, min, map, Option, Some, None, List, [], ◌∷◌, ◌++◌, length, drop, inl, inr, refl, sym, ◌∙◌, ap, subst, arith, zero, suc}
use Rattle.std.specs.Prelude.{ℤ, slice_get, IfSome}
use Rattle.std.proofs.lemmas.List.{append-nil, drop_all}
use Rattle.lin_object.specs.declared.op.Op.{Op}
use Rattle.lin_object.specs.declared.op.Op.TheVariants.{Enqueue, Dequeue}
use Rattle.lin_object.specs.declared.reply.Reply.{Reply}
use Rattle.lin_object.specs.declared.reply.Reply.TheVariants.{Okay, Int, Flag, Empty}
use Rattle.lin_object.specs.declared.state.ObjState.{ObjState}
use Rattle.lin_history.specs.declared.problems.problem.ProblemCall.{ProblemCall}
use Rattle.lin_history.specs.Problems.Problem.{Problem}
use Rattle.lin_history.specs.Problems.ProblemParts.{AreTimed}
use Rattle.lin_ahead.specs.declared.items.item_calls.TheConstants.{BEYOND}
use Rattle.lin_ahead.specs.Queues.Queue.{MayTake}
use Rattle.lin_laws.specs.Items.{Puts, Took}
use Rattle.lin_ahead.specs.Items.Numbers.{ReturnsAt, CalledFrom, IsBy, IsFrom}
use Rattle.lin_ahead.specs.Items.ItemCalls.{goes_in_once, nothing_told, told, least_pending}
use Rattle.lin_ahead.specs.Items.CallNumbers.{by_item, from_item, by_number, from_number, by_row, from_row}
use Rattle.lin_ahead.proofs.items.ToldLemmas.{less, within, returned_there, taken_there, one_alone, pending_within}

-- an element of a list that is seen through a function
pub through : {A B : Type 0} (f : A → B) (xs : List A) (i : ℕ) (y : B) → slice_get (map f xs) i ≡ Some y → (x : A) × (slice_get xs i ≡ Some x) × (f x ≡ y)
through f [] i y e = absurd (cc)
through f (x ∷ xs) zero y e = (x, refl, cc)
through f (x ∷ xs) (suc i) y e = through f xs i y e

pub seen_through : {A B : Type 0} (f : A → B) (xs : List A) (i : ℕ) (x : A) → slice_get xs i ≡ Some x → slice_get (map f xs) i ≡ Some (f x)
seen_through f [] i x e = absurd (cc)
seen_through {A} f (y ∷ xs) zero x e = (let h : y ≡ x = cc in ap (λ (z : A). Some (f z)) h)
seen_through f (y ∷ xs) (suc i) x e = seen_through f xs i x e

-- a row is whole once no call is left
pub row_done : {A B : Type 0} (f : A → B) (row all : List B) (calls : List A) (i : ℕ) → length calls ≤ i → row ++ map f (drop i calls) ≡ all → row ≡ all
row_done {A} f row all calls i past e = sym (append-nil row) ∙ ap (λ (l : List A). row ++ map f l) (sym (drop_all i calls past)) ∙ e

module _ (p : Problem ObjState Op Reply) where
  -- ---- the number by which a call is needed

  beyond : (a m : ℕ) → m ≡ BEYOND → IsBy p [] a m
  beyond a m e = inl (omega (arith, e))

  -- the item that call a alone puts in, at the return of its taker
  by_taker : (a m : ℕ) (v : ℤ) → Puts p a v → goes_in_once (told p.calls v).putters ≡ true → m ≡ (told p.calls v).returned → IsBy p [] a m
  by_taker a m v puts once e = elim (returned_there nothing_told p.calls v) [
    | inl none ↦ beyond a m (e ∙ none)
    | inr k ↦ inr (
      k.0,
      (k.1, k.2, (Int v, rw e k.3.1)),
      inr (v, puts, (λ d other. one_alone nothing_told p.calls v refl once d a other puts), (λ h. h), (k.1, k.2, k.3.0, ((told p.calls v).returned, k.3.1))),
    )
  ]

  by_enqueue : (a : ℕ) (v : ℤ) → Puts p a v → IsBy p [] a (by_item (told p.calls v))
  by_enqueue a v puts = go (goes_in_once (told p.calls v).putters) refl
    where
      go : (b : Bool) → goes_in_once (told p.calls v).putters ≡ b → IsBy p [] a (by_item (told p.calls v))
      go true e = by_taker a (by_item (told p.calls v)) v puts e (rw e refl)
      go false e = beyond a (by_item (told p.calls v)) (rw e refl)

  pub by_is : (a : ℕ) (x : ProblemCall Op Reply) → slice_get p.calls a ≡ Some x → IsBy p [] a (by_number (told p.calls) x.op x.returned)
  by_is a x there = go x.op x.returned refl refl
    where
      go : (op : Op) (back : Option (ℕ × Reply)) → x.op ≡ op → x.returned ≡ back → IsBy p [] a (by_number (told p.calls) op back)
      go (Enqueue v) back e f = by_enqueue a v (x, there, e)
      go Dequeue (Some (n, Empty)) e f = inr (a, (x, there, (Empty, f)), inl ((x, there, e, (n, f)), refl))
      go Dequeue None e f = beyond a BEYOND refl
      go Dequeue (Some (n, Okay)) e f = beyond a BEYOND refl
      go Dequeue (Some (n, Int v)) e f = beyond a BEYOND refl
      go Dequeue (Some (n, Flag b)) e f = beyond a BEYOND refl
      go op back e f = beyond a BEYOND refl

  -- ---- the number up to which a call needs others

  called_from : (n c : ℕ) (x : ProblemCall Op Reply) → slice_get p.calls c ≡ Some x → n ≤ x.called → CalledFrom p n c
  called_from n c x there h = rw there h

  -- no call took the item before the least event that is told
  pub bounds : (timed : AreTimed p.calls) (v : ℤ) (n : ℕ) → n ≤ (told p.calls v).called → (j : ℕ) → Took p j v → CalledFrom p n j × ((m : ℕ) → ReturnsAt p j m → n ≤ m)
  bounds timed v n h j (x, there, op, (at, back)) =
      let k : (told p.calls v).called ≤ x.called = (within nothing_told p.calls v j x at there (op, back)).1 in
      (called_from n j x there (omega (arith, h, k)), λ m r. later m r (omega (arith, h, k)))
    where
      later : (m : ℕ) → ReturnsAt p j m → n ≤ x.called → n ≤ m
      later m (y, here, (reply, returns)) few =
          let same : x ≡ y = cc in
          let after : y.called < m = timed.returned j y (m, reply) here returns in
          let number : x.called ≡ y.called = ap (λ (z : ProblemCall Op Reply). z.called) same in
          omega (arith, few, after, number)

  -- a call that may take the item took it, or is pending
  may_take : (v : ℤ) (n : ℕ) → n ≤ (told p.calls v).called → n ≤ least_pending p.calls → (j : ℕ) → MayTake p j v → CalledFrom p n j
  may_take v n took pending j (x, there, op, fits) = go x.returned refl fits
    where
      go : (back : Option (ℕ × Reply)) → x.returned ≡ back → IfSome back (λ r. r.1 ≡ Int v) → CalledFrom p n j
      go None e f = called_from n j x there (let k = pending_within BEYOND p.calls j x there op e in omega (arith, pending, k))
      go (Some (at, reply)) e f =
          let back : x.returned ≡ Some (at, Int v) = e ∙ ap (λ (r : Reply). Some (at, r)) f in
          let k = (within nothing_told p.calls v j x at there (op, back)).1 in
          called_from n j x there (omega (arith, took, k))

  from_enqueue : AreTimed p.calls → (b : ℕ) (v : ℤ) → Puts p b v → IsFrom p [] b (from_item (told p.calls v) (least_pending p.calls))
  from_enqueue timed b v puts = go (goes_in_once (told p.calls v).putters) (told p.calls v).taken refl refl
    where
      few : (told p.calls v).called ≤ 2 ^ 32
      few = (less nothing_told p.calls v).1

      by_all : (n : ℕ) → n ≡ min (told p.calls v).called (least_pending p.calls) → IsFrom p [] b n
      by_all n e = inr (omega (arith, e, few), (v, puts, bounds timed v n (omega (arith, e)), inl (may_take v n (omega (arith, e)) (omega (arith, e)))))

      by_one : (n : ℕ) → goes_in_once (told p.calls v).putters ≡ true → (told p.calls v).taken ≡ true → n ≡ (told p.calls v).called → IsFrom p [] b n
      by_one n once taken e = elim (taken_there nothing_told p.calls v taken) [
        | inl never ↦ absurd (cc)
        | inr (m, k) ↦ inr (
          omega (arith, e, few),
          (v, puts, bounds timed v n (omega (arith, e)), inr ((λ d other. one_alone nothing_told p.calls v refl once d b other puts), (λ h. h), (k.0, (k.1, k.2, k.3.0, (m, k.3.1))))),
        )
      ]

      go : (once taken : Bool) → goes_in_once (told p.calls v).putters ≡ once → (told p.calls v).taken ≡ taken → IsFrom p [] b (from_item (told p.calls v) (least_pending p.calls))
      go true true e f = by_one (from_item (told p.calls v) (least_pending p.calls)) e f (rw (e, f) refl)
      go true false e f = by_all (from_item (told p.calls v) (least_pending p.calls)) (rw (e, f) refl)
      go false taken e f = by_all (from_item (told p.calls v) (least_pending p.calls)) (rw e refl)

  pub from_is : AreTimed p.calls → (b : ℕ) (x : ProblemCall Op Reply) → slice_get p.calls b ≡ Some x → IsFrom p [] b (from_number (told p.calls) (least_pending p.calls) x.op)
  from_is timed b x there = go x.op refl
    where
      go : (op : Op) → x.op ≡ op → IsFrom p [] b (from_number (told p.calls) (least_pending p.calls) op)
      go (Enqueue v) e = from_enqueue timed b v (x, there, e)
      go op e = inl refl

  -- ---- the rows

  pub by_row_is : (a m : ℕ) → slice_get (by_row (told p.calls) p.calls) a ≡ Some m → IsBy p [] a m
  by_row_is a m e =
      let k = through (λ (c : ProblemCall Op Reply). by_number (told p.calls) c.op c.returned) p.calls a m e in
      subst (λ (n : ℕ). IsBy p [] a n) k.2 (by_is a k.0 k.1)

  pub from_row_is : AreTimed p.calls → (b n : ℕ) → slice_get (from_row (told p.calls) (least_pending p.calls) p.calls) b ≡ Some n → IsFrom p [] b n
  from_row_is timed b n e =
      let k = through (λ (c : ProblemCall Op Reply). from_number (told p.calls) (least_pending p.calls) c.op) p.calls b n e in
      subst (λ (n : ℕ). IsFrom p [] b n) k.2 (from_is timed b k.0 k.1)
