-- No enqueue of a linearization on a queue is too late by the rows of the calls: what goes in before a call that finds the queue
-- empty comes out before it.
use Rattle.std.proofs.Common.{◌≡◌, ℕ, ◌<◌, Bool, true, Option, Some, None, List, [], ◌∷◌, ◌++◌, length, inl, inr, refl, sym, ◌∙◌, ap, subst, append_assoc, append-nil, arith}
use Rattle.std.specs.Prelude.{ℤ, slice_get}
use Rattle.lin_object.specs.declared.op.Op.{Op}
use Rattle.lin_object.specs.declared.op.Op.TheVariants.{Dequeue}
use Rattle.lin_object.specs.declared.reply.Reply.{Reply}
use Rattle.lin_object.specs.declared.reply.Reply.TheVariants.{Okay, Int, Flag, Empty}
use Rattle.lin_object.specs.declared.state.ObjState.{ObjState}
use Rattle.lin_history.specs.declared.problems.problem.ProblemCall.{ProblemCall}
use Rattle.lin_history.specs.Problems.Problem.{Problem}
use Rattle.lin_history.specs.Problems.ProblemParts.{AreTimed}
use Rattle.lin_history.specs.Problems.Lists.{In}
use Rattle.lin_history.specs.Problems.ListLemmas.{has_none, in_early, in_late, in_either, in_place}
use Rattle.lin_history.specs.Problems.Precedence.{Before}
use Rattle.lin_history.specs.Problems.Linearizations.{IsRun, IsLinearization}
use Rattle.lin_ahead.specs.declared.items.late_pushes.LateRows.{LateRows}
use Rattle.lin_ahead.specs.Items.Late.{LeadsBeyond, NoneIsLate}
use Rattle.lin_ahead.specs.Items.Numbers.{ReturnsAt, CalledFrom, IsFrom}
use Rattle.lin_ahead.specs.Queues.Queue.{Item, IsOfQueue, FoundEmpty}
use Rattle.lin_laws.specs.Items.{Puts, Took}
use Rattle.lin_ahead.specs.Queues.ToldOfQueue.{queue_empty, AreLateEnqueues}
use Rattle.lin_ahead.proofs.items.ChainLemmas.{before_by}
use Rattle.lin_ahead.proofs.first.NeedsLemmas.{not_before, place_split, stands}
use Rattle.lin_ahead.proofs.queues.QueueLemmas.{Moment, moment, queue_empty as found_none, not_both, replied, puts, put_there, took_completed, not_taken_behind}
use Rattle.lin_ahead.proofs.items.RowLemmas.{through, from_row_is}
use Rattle.lin_ahead.proofs.items.ToldLemmas.{same_reply}

-- a flagged call found the queue empty
empty_op : (op : Op) (back : Option (ℕ × Reply)) → queue_empty op back ≡ true → (op ≡ Dequeue) × ((n : ℕ) × (back ≡ Some (n, Empty)))
empty_op Dequeue (Some (n, Empty)) e = (refl, (n, refl))
empty_op Dequeue None e = absurd (cc)
empty_op Dequeue (Some (n, Okay)) e = absurd (cc)
empty_op Dequeue (Some (n, Int v)) e = absurd (cc)
empty_op Dequeue (Some (n, Flag b)) e = absurd (cc)
empty_op op back e = absurd (cc)

module _ {p : Problem ObjState Op Reply} (of_queue : IsOfQueue p []) where
  -- a call that found the queue empty did not return with an item
  not_took : (z : ℕ) (v : ℤ) → FoundEmpty p z → Took p z v → ⊥
  not_took z v found took =
      let one : found.0 ≡ took.0 = (let a = found.1 in let b = took.1 in cc) in
      let same : ◌≡◌ {A = Option (ℕ × Reply)} (Some (found.3.0, Empty)) (Some (took.3.0, Int v)) = sym found.3.1 ∙ ap (λ (x : ProblemCall Op Reply). x.returned) one ∙ took.3.1 in
      let none : Empty ≡ Int v = same_reply found.3.0 took.3.0 Empty (Int v) same in
      absurd (cc)

  number_of : (rows : LateRows) → AreLateEnqueues p.calls rows → AreTimed p.calls → (c n : ℕ) → slice_get rows.from.items c ≡ Some n → IsFrom p [] c n
  number_of rows are timed c n there = from_row_is p timed c n (subst (λ (l : List ℕ). slice_get l c ≡ Some n) are.from there)

  -- a chain leads from an enqueue
  from_enqueue : (rows : LateRows) → AreLateEnqueues p.calls rows → AreTimed p.calls → (set : List Bool) (b : ℕ) (chain : List ℕ) (m : ℕ) → LeadsBeyond p rows set b chain m → (v : ℤ) × Puts p b v
  from_enqueue rows are timed set b [] m (n, there, less) = elim (number_of rows are timed b n there) [
    | inl none ↦ absurd (omega (arith, none, less))
    | inr (few, (v, put, bounds, which)) ↦ (v, put)
  ]
  from_enqueue rows are timed set b (d ∷ ds) m (last, (k, outside, more)) = from_enqueue rows are timed set b ds k more

  -- a place of a linearization at which a call finds the queue empty
  module _ (early : List ℕ) (z : ℕ) (late : List ℕ) (whole : IsLinearization p (early ++ z ∷ late)) (found : FoundEmpty p z) where
    run : IsRun p (early ++ z ∷ late)
    run = whole.continuation

    here : Moment of_queue early z late
    here = moment of_queue early z late run

    -- what went in before it came out before it
    all_out : (c : ℕ) (v : ℤ) → Puts p c v → In c early → Item v here.so_far.took
    all_out c v put there =
        let none = found_none here.so_far.rest here.goes_on.0 (replied of_queue here.so_far.rest here.goes_on.0 z found.0 found.3.0 Empty found.1 found.2 found.3.1 here.goes_on.1) in
        let all : puts of_queue early ≡ here.so_far.took = here.so_far.same ∙ ap (λ (l : List ℤ). here.so_far.took ++ l) none.0 ∙ append-nil here.so_far.took in
        subst (λ (l : List ℤ). Item v l) all (put_there of_queue early c v put there)

    -- a call that took such an item stands before it
    takes_before : (c : ℕ) (v : ℤ) → ((d : ℕ) → Puts p d v → d ≡ c) → Item v here.so_far.took → (j : ℕ) → Took p j v → In j early
    takes_before c v only out j took = elim (whole.complete j (took_completed of_queue j took.0 took.3.0 (Int v) took.1 took.3.1)) [
      | inl q ↦ absurd (let x = has_none (length p.calls) j in cc)
      | inr q ↦ elim (in_either j early (z ∷ late) q) [
        | inl r ↦ r
        | inr (inl same) ↦ absurd (not_took z v found (subst (λ (n : ℕ). Took p n v) same took))
        | inr (inr r) ↦ absurd (not_taken_behind of_queue early z late run here c v only (λ h. h) out j took r)
      ]
    ]

    -- the item of an enqueue before it is taken before it, by a call that was called at the event of its number or later
    taken_from : (c n m : ℕ) → In c early → IsFrom p [] c n → m < n → (j : ℕ) × In j early × CalledFrom p n j
    taken_from c n m there (inl none) less = absurd (omega (arith, none, less))
    taken_from c n m there (inr (few, (v, put, bounds, which))) less =
        let out = all_out c v put there in
        elim which [
          | inl all ↦ (let t = here.so_far.taker v out in (t.0, t.1, all t.0 t.2))
          | inr (only, fresh, (j, took)) ↦ (j, takes_before c v only out j took, (bounds j took).0)
        ]

    -- what returned before a call was called that stands before it does so, too
    stands_before : (d j : ℕ) → In j early → Before p d j → In d early
    stands_before d j there before =
        let at = in_place j early there in
        elim (run.ordered at.0 j (at.1 ++ z ∷ late) (ap (λ (l : List ℕ). l ++ z ∷ late) at.2 ∙ append_assoc at.0 (j ∷ at.1) (z ∷ late)) d before) [
          | inl q ↦ absurd (let x = has_none (length p.calls) d in cc)
          | inr q ↦ subst (λ (l : List ℕ). In d l) (sym at.2) (in_early d at.0 (j ∷ at.1) q)
        ]

    module _ (rows : LateRows) (are : AreLateEnqueues p.calls rows) (timed : AreTimed p.calls) where
      -- a chain from an enqueue before it leads to a call before it that was called after the event
      beyond : (set : List Bool) (b : ℕ) (chain : List ℕ) (m : ℕ) → In b early → LeadsBeyond p rows set b chain m → (j n : ℕ) × In j early × CalledFrom p n j × (m < n)
      beyond set b [] m first (n, there, less) = let j = taken_from b n m first (number_of rows are timed b n there) less in (j.0, n, j.1, j.2, less)
      beyond set b (d ∷ ds) m first ((n, there, less), (k, outside, more)) =
          let i = beyond set b ds k first more in
          let before = before_by p d i.0 k i.1 outside.1 i.4 i.3 in
          let j = taken_from d n m (stands_before d i.0 i.2 before) (number_of rows are timed d n there) less in
          (j.0, n, j.1, j.2, less)

      -- not beyond its own return
      not_beyond : (set : List Bool) (b : ℕ) (chain : List ℕ) (m : ℕ) → In b early → ReturnsAt p z m → LeadsBeyond p rows set b chain m → ⊥
      not_beyond set b chain m first returns leads =
          let j = beyond set b chain m first leads in
          not_before early z late run j.0 (before_by p z j.0 m j.1 returns j.4 j.3) j.2

  pub no_enqueue_late : (rows : LateRows) → AreLateEnqueues p.calls rows → AreTimed p.calls → NoneIsLate p rows
  no_enqueue_late rows are timed l early rest b set whole eq set_is (m, (z, outside, kind), (chain, leads)) =
      not_beyond at.0 z at.1 whole' found rows are timed set b chain m first outside.1 leads
    where
      found : FoundEmpty p z
      found = elim kind [
        | inl flag ↦ (
            let k = through (λ (c : ProblemCall Op Reply). queue_empty c.op c.returned) p.calls z true (subst (λ (l : List Bool). slice_get l z ≡ Some true) are.found_empty flag) in
            let is = empty_op k.0.op k.0.returned k.2 in
            (k.0, k.1, is.0, is.1))
        | inr (a, there, which) ↦ absurd (let f : slice_get [] a ≡ Some (Some z) = subst (λ (l : List (Option ℕ)). slice_get l a ≡ Some (Some z)) are.poppers there in cc)
      ]

      at : (early : List ℕ) × (late : List ℕ) × (l ≡ early ++ z ∷ late)
      at = stands l z whole (took_completed of_queue z found.0 found.3.0 Empty found.1 found.3.1)

      whole' : IsLinearization p (at.0 ++ z ∷ at.1)
      whole' = subst (λ (k : List ℕ). IsLinearization p k) at.2 whole

      -- the enqueue stands before the call, which is outside the set
      first : In b at.0
      first = elim (place_split early (b ∷ rest) at.0 z at.1 (sym eq ∙ at.2)) [
        | inl q ↦ absurd (let inside = (set_is z).1 (subst (λ (k : List ℕ). In z k) (sym q.1) (in_late z at.0 (z ∷ q.0) (inl refl))) in let out = outside.0 in cc)
        | inr q ↦ behind q.0 q.1 q.2
      ]
        where
          behind : (front : List ℕ) → at.0 ≡ early ++ front → b ∷ rest ≡ front ++ z ∷ at.1 → In b at.0
          behind [] e split = absurd (let put = from_enqueue rows are timed set b chain m leads in not_both of_queue z b put.0 found put.1 (cc))
          behind (d ∷ front) e split = subst (λ (k : List ℕ). In b k) (sym e) (in_late b early (d ∷ front) (inl (cc)))
