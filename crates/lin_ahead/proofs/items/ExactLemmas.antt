-- No other numbers of a queue's calls would tell more.
use Rattle.std.proofs.Common.{◌≡◌, ℕ, ◌<◌, ◌≤◌, ◌^◌, Bool, true, false, min, Option, Some, [], ◌⊎◌, inl, inr, refl, sym, ◌∙◌, ap, subst, arith}
use Rattle.std.specs.Prelude.{ℤ, slice_get, ◌&&◌}
use Rattle.lin_object.specs.declared.op.Op.{Op}
use Rattle.lin_object.specs.declared.reply.Reply.{Reply}
use Rattle.lin_object.specs.declared.reply.Reply.TheVariants.{Int, Empty}
use Rattle.lin_object.specs.declared.state.ObjState.{ObjState}
use Rattle.lin_history.specs.declared.problems.problem.ProblemCall.{ProblemCall}
use Rattle.lin_history.specs.Problems.Problem.{Problem}
use Rattle.lin_history.specs.Problems.ProblemParts.{AreTimed}
use Rattle.lin_history.specs.Problems.Needs.{NeedNumbers}
use Rattle.lin_ahead.specs.declared.items.item_calls.TheConstants.{BEYOND}
use Rattle.lin_ahead.specs.Queues.Queue.{Item, FoundEmpty, MayTake, OnlyPuts}
use Rattle.lin_laws.specs.Items.{Puts, Took}
use Rattle.lin_ahead.specs.Items.Numbers.{ReturnsAt, CalledFrom, IsBy, IsFrom, AreNumbers}
use Rattle.lin_ahead.specs.Items.ItemCalls.{goes_in_once, nothing_told, told, least_pending}
use Rattle.lin_ahead.specs.Items.CallNumbers.{from_item, by_number, from_number, by_row, from_row}
use Rattle.lin_ahead.proofs.items.ToldLemmas.{same_event, within, called_there, taken_by, alone_once, pending_there}
use Rattle.lin_ahead.proofs.items.RowLemmas.{through, by_row_is, from_row_is}

-- two calls at one place are one
one_call : {A : Type 0} (o : Option A) (x y : A) → o ≡ Some x → o ≡ Some y → x ≡ y
one_call o x y e f = cc

module _ (p : Problem ObjState Op Reply) where
  -- a call returned once
  one_return : (i : ℕ) (x : ProblemCall Op Reply) (n k : ℕ) (r : Reply) → slice_get p.calls i ≡ Some x → x.returned ≡ Some (n, r) → ReturnsAt p i k → n ≡ k
  one_return i x n k r there back (y, here, (q, returns)) =
      let same : x ≡ y = one_call (slice_get p.calls i) x y there here in
      same_event n k r q (sym back ∙ ap (λ (z : ProblemCall Op Reply). z.returned) same ∙ returns)

  pub alone : (a : ℕ) (v : ℤ) → Puts p a v → OnlyPuts p a v → goes_in_once (told p.calls v).putters ≡ true
  alone a v puts only = alone_once nothing_told p.calls v refl a puts only

  -- no lesser number of an event is one by which the call is needed
  by_least : (a : ℕ) (x : ProblemCall Op Reply) → slice_get p.calls a ≡ Some x → (k : ℕ) → k < 2 ^ 32 → IsBy p [] a k → by_number (told p.calls) x.op x.returned ≤ k
  by_least a x there k event is = elim is [
    | inl many ↦ absurd (omega (arith, event, many))
    | inr (i, at, inl (empty, same)) ↦ of_empty i at empty same
    | inr (i, at, inr (w, puts, only, fresh, took)) ↦ of_item i at w puts only took
  ]
    where
      of_empty : (i : ℕ) → ReturnsAt p i k → FoundEmpty p i → i ≡ a → by_number (told p.calls) x.op x.returned ≤ k
      of_empty i at (y, here, op, (n, back)) same =
          let e : y ≡ x = one_call (slice_get p.calls a) y x (subst (λ (j : ℕ). slice_get p.calls j ≡ Some y) same here) there in
          let number : n ≡ k = one_return i y n k Empty here back at in
          subst (λ (z : ProblemCall Op Reply). by_number (told p.calls) z.op z.returned ≤ k) e (rw (op, back) (omega (arith, number)))

      of_item : (i : ℕ) → ReturnsAt p i k → (w : ℤ) → Puts p a w → OnlyPuts p a w → Took p i w → by_number (told p.calls) x.op x.returned ≤ k
      of_item i at w (y, here, op) only (z, took, deq, (n, back)) =
          let e : y ≡ x = one_call (slice_get p.calls a) y x here there in
          let once = alone a w (y, here, op) only in
          let number : n ≡ k = one_return i z n k (Int w) took back at in
          let least : (told p.calls w).returned ≤ n = (within nothing_told p.calls w i z n took (deq, back)).0 in
          subst (λ (z : ProblemCall Op Reply). by_number (told p.calls) z.op z.returned ≤ k) e (rw (op, once) (omega (arith, least, number)))

  called_after : (k i : ℕ) (x : ProblemCall Op Reply) → slice_get p.calls i ≡ Some x → CalledFrom p k i → k ≤ x.called
  called_after k i x there h = rw there at h

  -- no number is greater than the first call of those that took the item, if it is right
  pub below_takers : (k : ℕ) (v : ℤ) → k ≤ 2 ^ 32 → ((j : ℕ) → Took p j v → CalledFrom p k j) → k ≤ (told p.calls v).called
  below_takers k v few takers = elim (called_there nothing_told p.calls v) [
    | inl e ↦ omega (arith, few, e)
    | inr (n, (i, x, there, took, e)) ↦ (let h = called_after k i x there (takers i (x, there, took.0, (n, took.1))) in omega (arith, h, e))
  ]

  -- nor than the first call of the pending dequeues, where these count
  below_pending : (k : ℕ) (v : ℤ) → k ≤ 2 ^ 32 → ((j : ℕ) → MayTake p j v → CalledFrom p k j) → k ≤ least_pending p.calls
  below_pending k v few takers = elim (pending_there BEYOND p.calls (omega arith)) [
    | inl e ↦ omega (arith, few, e)
    | inr (i, x, there, op, back, e) ↦ (let h = called_after k i x there (takers i (x, there, op, rw back tt)) in omega (arith, h, e))
  ]

  from_greatest : (b : ℕ) (x : ProblemCall Op Reply) → slice_get p.calls b ≡ Some x → (k : ℕ) → IsFrom p [] b k → k ≤ from_number (told p.calls) (least_pending p.calls) x.op
  from_greatest b x there k is = elim is [
    | inl zero_is ↦ omega (arith, zero_is)
    | inr (few, (v, (y, here, op), bounds, takers)) ↦ (
        let e : y ≡ x = one_call (slice_get p.calls b) y x here there in
        subst (λ (z : ProblemCall Op Reply). k ≤ from_number (told p.calls) (least_pending p.calls) z.op) e (rw op (
        of_item few v (y, here, op) (below_takers k v few (λ j took. (bounds j took).0)) takers)))
  ]
    where
      of_item : k ≤ 2 ^ 32 → (v : ℤ) → Puts p b v → k ≤ (told p.calls v).called
          → ((j : ℕ) → MayTake p j v → CalledFrom p k j) ⊎ (OnlyPuts p b v × (Item v [] → ⊥) × ((j : ℕ) × Took p j v))
          → k ≤ from_item (told p.calls v) (least_pending p.calls)
      of_item few v puts below takers = go (goes_in_once (told p.calls v).putters) (told p.calls v).taken refl refl
        where
          pending : (goes_in_once (told p.calls v).putters && (told p.calls v).taken) ≡ false → k ≤ least_pending p.calls
          pending e = elim takers [
            | inl all ↦ below_pending k v few all
            | inr (only, fresh, (j, (x, there, op, (n, back)))) ↦ absurd (
                let once = alone b v puts only in
                let taken = taken_by nothing_told p.calls v j x n there (op, back) in
                let f : true ≡ false = rw (once, taken) at e in
                cc)
          ]

          least : (goes_in_once (told p.calls v).putters && (told p.calls v).taken) ≡ false → k ≤ min (told p.calls v).called (least_pending p.calls)
          least e = let h = pending e in omega (arith, below, h)

          go : (once taken : Bool) → goes_in_once (told p.calls v).putters ≡ once → (told p.calls v).taken ≡ taken → k ≤ from_item (told p.calls v) (least_pending p.calls)
          go true true e f = rw (e, f) below
          go true false e f = rw (e, f) (least (rw (e, f) refl))
          go false taken e f = rw e (least (rw e refl))

  -- the rows have these numbers
  pub are_numbers : AreTimed p.calls → (rows : NeedNumbers) → rows.by ≡ by_row (told p.calls) p.calls → rows.from ≡ from_row (told p.calls) (least_pending p.calls) p.calls → AreNumbers p rows
  are_numbers timed rows bys froms = record {
    by = λ a m e. (
        let there : slice_get (by_row (told p.calls) p.calls) a ≡ Some m = rw (← bys) e in
        let x = through (λ (c : ProblemCall Op Reply). by_number (told p.calls) c.op c.returned) p.calls a m there in
        (by_row_is p a m there, λ k event is. subst (λ (n : ℕ). n ≤ k) x.2 (by_least a x.0 x.1 k event is)));
    from = λ b n e. (
        let there : slice_get (from_row (told p.calls) (least_pending p.calls) p.calls) b ≡ Some n = rw (← froms) e in
        let x = through (λ (c : ProblemCall Op Reply). from_number (told p.calls) (least_pending p.calls) c.op) p.calls b n there in
        (from_row_is p timed b n there, λ k is. subst (λ (m : ℕ). k ≤ m) x.2 (from_greatest b x.0 x.1 k is)));
  }
