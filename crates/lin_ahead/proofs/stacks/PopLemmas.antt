-- Calls that leave a stack too few pops begin no completion: each of the items that must go before a call is made is taken by a pending
-- pop of its own.
use Rattle.std.proofs.Common.{◌≡◌, ◌≢◌, ℕ, ◌<◌, ◌≤◌, Bool, true, false, Option, Some, None, Result, Ok, Err, List, [], ◌∷◌, ◌++◌, length, ◌⊎◌, inl, inr, refl, sym, ◌∙◌, ap, subst, append_assoc, append-nil, arith}
use Rattle.std.specs.Prelude.{ℤ, slice_get, drop, IfSome, IfOk, IsSomeAnd, IsTrue, nat_le}
use Rattle.lin_object.specs.Items.{is_in}
use Rattle.lin_object.specs.declared.op.Op.{Op}
use Rattle.lin_object.specs.declared.op.Op.TheVariants.{Pop}
use Rattle.lin_object.specs.declared.reply.Reply.{Reply}
use Rattle.lin_object.specs.declared.reply.Reply.TheVariants.{Int, Empty}
use Rattle.lin_object.specs.declared.state.ObjState.{ObjState}
use Rattle.lin_object.specs.declared.state.ObjState.TheVariants.{Stack}
use Rattle.lin_history.specs.declared.problems.problem.ProblemCall.{ProblemCall}
use Rattle.lin_history.specs.OptionLemmas.{some_and, and_some}
use Rattle.lin_history.specs.Problems.Problem.{Problem}
use Rattle.lin_history.specs.Problems.Lists.{In, IsDistinct}
use Rattle.lin_history.specs.Problems.ListLemmas.{distinct_early, in_early, in_late, in_either, in_place}
use Rattle.lin_history.specs.Problems.LegalLists.{next, Legal}
use Rattle.lin_history.specs.Problems.Precedence.{Before}
use Rattle.lin_history.specs.Problems.Continuations.{IsCompletion}
use Rattle.lin_search.specs.NextCall.{IsNext}
use Rattle.lin_ahead.specs.First.FirstProgress.{BeginsNone}
use Rattle.lin_ahead.specs.Items.Late.{ReturnsOutside}
use Rattle.lin_ahead.specs.Items.ItemCalls.{goes_in_once, told}
use Rattle.lin_ahead.specs.Queues.Queue.{Item}
use Rattle.lin_laws.specs.Items.{Puts, Took, Pushes, Popped}
use Rattle.lin_ahead.specs.Queues.Queue as on_queues
use Rattle.lin_ahead.specs.Stacks.Stack.{FoundEmpty}
use Rattle.lin_ahead.specs.Stacks.StackTakers.{on_queue, LieAbove, TookLifted, FindsGoneAbove, StandsBy, LacksPops}
use Rattle.lin_ahead.specs.Items.Takers.{queue_of, AreApart, is_left, IsLost, IsTakerLeft, GoesBefore, AreTooFew}
use Rattle.lin_ahead.specs.Queues.ToldOfQueue.{IsTaker}
use Rattle.lin_ahead.specs.Stacks.ToldOfStack.{exchanged_op, exchanged_call, exchanged_calls}
use Rattle.lin_ahead.proofs.stacks.AboveLemmas.{PushedIn, lies_or_popped, pushed_above}
use Rattle.lin_ahead.proofs.items.ChainLemmas.{legal_split, returned_with, completed}
use Rattle.lin_ahead.proofs.stacks.OwedStackLemmas.{still_stack, item_at}
use Rattle.lin_ahead.proofs.first.PlaceLemmas.{put_on, taken_off}
use Rattle.lin_ahead.proofs.queues.QueueLemmas.{Item_late, Item_either, Item_place, item_split}
use Rattle.lin_ahead.proofs.items.RowLemmas.{through, seen_through}
use Rattle.lin_laws.specs.Exact.{IsExact}
use Rattle.lin_ahead.proofs.stacks.StackLemmas.{MayPop, LeavesBelow, call_moves, push_is_no_pop, one_item, inside_stack, leaves_legal, legal_rest, never_there, pops_top}
use Rattle.lin_ahead.proofs.stacks.StackRowLemmas.{op_of, pushes_puts, puts_pushes, popped_took, took_popped}
use Rattle.lin_ahead.proofs.items.TakerLemmas.{once_is, left_is, left_tells, among_false, among_value, without_one, both_true, in_front, distinct, outside, called}

module _ (p : Problem ObjState Op Reply) where
  -- what the calls on a queue say of those on the stack
  empty_back : (z : ℕ) → on_queues.FoundEmpty (on_queue p) z → FoundEmpty p z
  empty_back z (y, there, op, (n, back)) =
      let k = through exchanged_call p.calls z y there in
      (k.0, k.1, op_of p k.0 y _ k.2 op, (n, ap (λ (x : ProblemCall Op Reply). x.returned) k.2 ∙ back))

  before_back : (a b : ℕ) → Before (on_queue p) a b → Before p a b
  before_back a b before =
      let k = some_and (slice_get (exchanged_calls p.calls) a) (λ (x : ProblemCall Op Reply). IsSomeAnd x.returned (λ r. IsSomeAnd (slice_get (exchanged_calls p.calls) b) (λ y. r.0 < y.called))) before in
      let r = some_and k.0.returned (λ (r : ℕ × Reply). IsSomeAnd (slice_get (exchanged_calls p.calls) b) (λ y. r.0 < y.called)) k.2 in
      let l = some_and (slice_get (exchanged_calls p.calls) b) (λ (y : ProblemCall Op Reply). r.0.0 < y.called) r.2 in
      let x = through exchanged_call p.calls a k.0 k.1 in
      let y = through exchanged_call p.calls b l.0 l.1 in
      let e : y.0.called ≡ l.0.called = ap (λ (c : ProblemCall Op Reply). c.called) y.2 in
      and_some (slice_get p.calls a) (λ x. IsSomeAnd x.returned (λ r. IsSomeAnd (slice_get p.calls b) (λ y. r.0 < y.called))) x.0 x.1
      (and_some x.0.returned (λ r. IsSomeAnd (slice_get p.calls b) (λ y. r.0 < y.called)) r.0 (ap (λ (c : ProblemCall Op Reply). c.returned) x.2 ∙ r.1)
      (and_some (slice_get p.calls b) (λ y. r.0.0 < y.called) y.0 y.1 (let less = l.2 in omega (arith, less, e))))

  no_item : (below above : List ℤ) (v : ℤ) → above ++ below ≡ [] → Item v above → ⊥
  no_item below [] v e h = h
  no_item below (x ∷ above) v e h = absurd (cc)

-- an item that lies there once, and above others, is not among those
not_twice : (items above rest gone below : List ℤ) (u : ℤ) → items ≡ above ++ u ∷ rest → (Item u above → ⊥) → (Item u rest → ⊥) → items ≡ gone ++ below → Item u gone → Item u below → ⊥
not_twice items above rest gone below u whole not_above not_rest also there again =
    let at = Item_place u gone there in
    let shape : above ++ u ∷ rest ≡ at.0 ++ u ∷ (at.1 ++ below) = sym whole ∙ also ∙ ap (λ (l : List ℤ). l ++ below) at.2 ∙ append_assoc at.0 (u ∷ at.1) below in
    elim (item_split above (u ∷ rest) at.0 u (at.1 ++ below) shape) [
      | inl q ↦ not_above q
      | inr q ↦ later q.0 at.1 q.2
    ]
  where
    behind : (g : List ℤ) → Item u (g ++ below)
    behind g = Item_late u g below again

    later : (more : List ℤ) → (g : List ℤ) → u ∷ rest ≡ more ++ u ∷ (g ++ below) → ⊥
    later [] g e = let same : g ++ below ≡ rest = cc in not_rest (subst (λ (l : List ℤ). Item u l) same (behind g))
    later (x ∷ more) g e = let same : more ++ u ∷ (g ++ below) ≡ rest = cc in not_rest (subst (λ (l : List ℤ). Item u l) same (Item_late u more (u ∷ (g ++ below)) (inl refl)))

module _ (p : Problem ObjState Op Reply) (exact : IsExact p) where
  -- ---- what is popped, and by whom

  -- the item lies above, or a call pushes it
  abbrev Comes : ℤ → List ℤ → List ℕ → Type 0
  Comes v above l = Item v above ⊎ PushedIn p exact v l

  -- of what lay above or was pushed, and is not there at the end, each lost item was taken by a pending pop of its own
  record Popping (above end : List ℤ) (l : List ℕ) : Type 0 where
    takers : List ℕ
    distinct : IsDistinct l → IsDistinct takers
    pending : (d : ℕ) → In d takers → In d l × IsTaker (on_queue p) d
    enough : (vs : List ℤ) → AreApart vs → ((v : ℤ) → Item v vs → IsLost (on_queue p) v × (Item v end → ⊥) × Comes v above l) → length vs ≤ length takers

  none_left : (end vs : List ℤ) → ((v : ℤ) → Item v vs → IsLost (on_queue p) v × (Item v end → ⊥) × Comes v end []) → length vs ≤ 0
  none_left end [] h = omega arith
  none_left end (v ∷ vs) h = (let k = h v (inl refl) in elim k.2 [ inl there ↦ absurd (k.1 there) | inr pushed ↦ absurd pushed.1 ])

  -- a step more, in front
  module _ (c : ℕ) (cs : List ℕ) (above mid end : List ℤ) (later : Popping mid end cs) where
    -- that took no lost item
    keeps : ((v : ℤ) → IsLost (on_queue p) v → Comes v above (c ∷ cs) → Comes v mid cs) → Popping above end (c ∷ cs)
    keeps moved = record {
      takers = later.takers;
      distinct = λ d. later.distinct d.1;
      pending = λ d h. (let k = later.pending d h in (inr k.0, k.1));
      enough = λ vs apart h. later.enough vs apart (λ v i. (let k = h v i in (k.0, k.1, moved v k.0 k.2)));
    }

    -- of a taker, that took this item
    adds : (u : ℤ) → IsTaker (on_queue p) c → ((v : ℤ) → v ≢ u → Comes v above (c ∷ cs) → Comes v mid cs) → Popping above end (c ∷ cs)
    adds u taker moved = record {
      takers = c ∷ later.takers;
      distinct = λ d. ((λ h. d.0 (later.pending c h).0), later.distinct d.1);
      pending = λ d h. elim h [ inl e ↦ (inl e, subst (λ (n : ℕ). IsTaker (on_queue p) n) (sym e) taker) | inr more ↦ (let k = later.pending d more in (inr k.0, k.1)) ];
      enough = λ vs apart h. (
          let less = without_one u vs apart in
          let k = later.enough less.left less.apart (λ v i. (let w = less.within v i in let g = h v w.0 in (g.0, g.1, moved v w.1 g.2))) in
          let few = less.few in
          omega (arith, k, few));
    }

    -- a push
    put : (u : ℤ) → Pushes p c u → mid ≡ u ∷ above → Popping above end (c ∷ cs)
    put u pushes same = keeps (λ v lost comes. elim comes [
      | inl i ↦ inl (subst (λ (l : List ℤ). Item v l) (sym same) (inr i))
      | inr (d, inl e, other) ↦ inl (subst (λ (l : List ℤ). Item v l) (sym same) (inl (one_item p exact c v u (subst (λ (n : ℕ). Pushes p n v) e other) pushes)))
      | inr (d, inr q, other) ↦ inr (d, q, other)
    ])

    -- a pop pushes nothing
    no_push : (x : ProblemCall Op Reply) → slice_get p.calls c ≡ Some x → x.op ≡ Pop → (v : ℤ) → PushedIn p exact v (c ∷ cs) → PushedIn p exact v cs
    no_push x there op v (d, inl e, other) = absurd (push_is_no_pop p exact c v (subst (λ (n : ℕ). Pushes p n v) e other) x there op)
    no_push x there op v (d, inr q, other) = (d, q, other)

    -- a pop of an item
    take : (u : ℤ) → MayPop p c u → above ≡ u ∷ mid → Popping above end (c ∷ cs)
    take u (x, there, op, recorded) same = go x.returned refl recorded
      where
        moved : (v : ℤ) → (v ≡ u → ⊥) → Comes v above (c ∷ cs) → Comes v mid cs
        moved v other comes = elim comes [
          | inl i ↦ elim (subst (λ (l : List ℤ). Item v l) same i) [ inl e ↦ absurd (other e) | inr q ↦ inl q ]
          | inr pushed ↦ inr (no_push x there op v pushed)
        ]

        go : (o : Option (ℕ × Reply)) → x.returned ≡ o → IfSome o (λ r. r.1 ≡ Int u) → Popping above end (c ∷ cs)
        go None back h = adds u (exchanged_call x, seen_through exchanged_call p.calls c x there, ap exchanged_op op, back) (λ v other. moved v other)
        go (Some (n, r)) back h = keeps (λ v lost. moved v (λ e. lost c (popped_took p c v (x, there, op, (n, back ∙ ap (λ (a : Reply). Some (n, a)) (h ∙ ap Int (sym e)))))))

    -- a pop that found none
    empty : (below : List ℤ) → above ++ below ≡ [] → (x : ProblemCall Op Reply) → slice_get p.calls c ≡ Some x → x.op ≡ Pop → Popping above end (c ∷ cs)
    empty below none x there op = keeps (λ v lost comes. elim comes [
      | inl i ↦ absurd (no_item p below above v none i)
      | inr pushed ↦ inr (no_push x there op v pushed)
    ])

  popping : (below : List ℤ) (l : List ℕ) (above end : List ℤ) → LeavesBelow p below above l end → Popping above end l
  popping below [] above end e = record {
    takers = [];
    distinct = λ d. tt;
    pending = λ d h. absurd h;
    enough = λ vs apart h. none_left end vs (λ v i. subst (λ (a : List ℤ). IsLost (on_queue p) v × (Item v end → ⊥) × Comes v a []) e (h v i));
  }
  popping below (c ∷ cs) above end (mid, step, more) =
      let later = popping below cs mid end more in
      elim (call_moves p exact (above ++ below) (Stack (mid ++ below)) c step) [
        | inl k ↦ put c cs above mid end later k.0 k.1 (put_on below mid above k.0 (inside_stack p exact (mid ++ below) (k.0 ∷ (above ++ below)) k.2))
        | inr (inl k) ↦ take c cs above mid end later k.0 k.2 (taken_off below mid above k.0 k.1 k.3 (inside_stack p exact (mid ++ below) k.1 k.4))
        | inr (inr k) ↦ empty c cs above mid end later below k.0 k.1.0 k.1.1 k.1.2
      ]

  -- all that lies there lies above nothing
  above_nothing : (l : List ℕ) (above end : List ℤ) → Legal p (Stack above) l (Stack end) → LeavesBelow p [] above l end
  above_nothing [] above end e = inside_stack p exact above end e
  above_nothing (c ∷ cs) above end (m, step, more) =
      let k = still_stack p exact (c ∷ []) above m (m, step, refl) in
      (k.0, subst (λ (a : List ℤ). next p (Stack a) c ≡ Some (Stack (k.0 ++ []))) (sym (append-nil above)) (step ∙ ap Some (k.1 ∙ ap Stack (sym (append-nil k.0)))), above_nothing cs k.0 end (subst (λ (s : ObjState). Legal p s cs (Stack end)) k.1 more))

  -- a pop that returned as it found none, found none
  found_none : (rest : List ℤ) (u : ObjState) (z : ℕ) → FoundEmpty p z → next p (Stack rest) z ≡ Some u → rest ≡ []
  found_none rest u z none step = elim (call_moves p exact rest u z step) [
    | inl put ↦ absurd (push_is_no_pop p exact z put.0 put.1 none.0 none.1 none.2)
    | inr (inl take) ↦ absurd (let e = returned_with p exact z take.0 take.2 none.0 none.1 none.3.0 Empty none.3.1 in cc)
    | inr (inr k) ↦ k.0
  ]

  -- ---- a call that leaves too few pops

  -- a call that returned with an item of these finds gone what lies above it
  module _ (gone : List ℤ) (w : ℤ) (below : List ℤ) (mid : List ℕ) (none : (d : ℕ) → In d mid → Pushes p d w → ⊥) (not_above : Item w gone → ⊥) (not_below : Item w below → ⊥) (z : ℕ) (popped : Popped p z w) (u : ObjState) where
    -- where the item still lies there
    lies_there : (end : List ℤ) → LeavesBelow p (w ∷ below) gone mid end → next p (Stack (end ++ w ∷ below)) z ≡ Some u → LeavesBelow p (w ∷ below) gone mid []
    lies_there [] leaves step = leaves
    lies_there (x ∷ end) leaves step =
        let top = pops_top p exact (x ∷ end ++ w ∷ below) u z w popped step in
        let same : x ≡ w = (let e = top.1 in cc) in
        elim (pushed_above p exact (w ∷ below) mid gone w (x ∷ end) leaves ([], end, ap (λ (v : ℤ). v ∷ end) same)) [
          | inl pushed ↦ absurd (none pushed.0 pushed.1 pushed.2)
          | inr at ↦ absurd (not_above (subst (λ (l : List ℤ). Item w l) (sym at.2) (item_at w at.0 at.1)))
        ]

    above_gone : (t : ObjState) → Legal p (Stack (gone ++ w ∷ below)) mid t → next p t z ≡ Some u → LeavesBelow p (w ∷ below) gone mid []
    above_gone t legal step = elim (lies_or_popped p exact mid gone w below t legal) [
      | inl lies ↦ lies_there lies.0 lies.2 (subst (λ (s : ObjState). next p s z ≡ Some u) lies.1 step)
      | inr at ↦ (
          let on : Legal p (Stack (w ∷ below)) (at.1 ∷ at.2) t = legal_rest p exact at.0 (at.1 ∷ at.2) (Stack (gone ++ w ∷ below)) (Stack (w ∷ below)) t (subst (λ (l : List ℕ). Legal p (Stack (gone ++ w ∷ below)) l t) at.3 legal) (leaves_legal p exact (w ∷ below) at.0 gone [] at.4.stays) in
          let rest = legal_rest p exact (at.1 ∷ []) at.2 (Stack (w ∷ below)) (Stack below) t on (Stack below, at.4.step, refl) in
          let never = never_there p exact w at.2 below t rest not_below (λ d there pushes. none d (subst (λ (l : List ℕ). In d l) (sym at.3) (in_late d at.0 (at.1 ∷ at.2) (inr there))) pushes) in
          let top = pops_top p exact never.0 u z w popped (subst (λ (s : ObjState). next p s z ≡ Some u) never.1 step) in
          absurd (never.2 (subst (λ (l : List ℤ). Item w l) (sym top.1) (inl refl))))
    ]

  module _ (set : List Bool) (s : ObjState) (c : ℕ) (items : List ℤ) (is_next : IsNext p set s c (Stack items)) (cs : List ℕ) (h : IsCompletion p set s (c ∷ cs)) where
    legal : Legal p (Stack items) cs h.continuation.legal.0
    legal = (let k = h.continuation.legal.1 in let f = is_next.step in let g = k.1 in subst (λ (u : ObjState). Legal p u cs h.continuation.legal.0) (let e : k.0 ≡ Stack items = cc in e) k.2)

    module _ (mid : List ℕ) (z : ℕ) (late : List ℕ) (m : ℕ) (place : cs ≡ mid ++ z ∷ late) (returns : ReturnsOutside p set z m) where
      two : (t : ObjState) × Legal p (Stack items) mid t × Legal p t (z ∷ late) h.continuation.legal.0
      two = legal_split p exact mid (z ∷ late) (Stack items) h.continuation.legal.0 (subst (λ (l : List ℕ). Legal p (Stack items) l h.continuation.legal.0) place legal)

      -- a taker in front of it is left, and was called by its return
      called_taker : (d : ℕ) → In d mid → IsTaker (on_queue p) d → IsTakerLeft (on_queue p) set c m d
      called_taker d there taker =
          let x = through exchanged_call p.calls d taker.0 taker.1 in
          let e : x.0.called ≡ taker.0.called = ap (λ (y : ProblemCall Op Reply). y.called) x.2 in
          (taker, both_true (outside p set s c cs h mid z late m place returns d there) (rw taker.1 (subst (λ (n : ℕ). nat_le n m ≡ true) e (called p set s c cs h mid z late m place returns d there x.0 x.1))))

      -- these are gone after the calls, and so is all that they push
      abbrev AllGone : List ℤ → Type 0
      AllGone gone = (below : List ℤ) × (items ≡ gone ++ below) × LeavesBelow p below gone mid []

      -- what the call finds gone is gone
      all_gone : (gone : List ℤ) → FindsGoneAbove (on_queue p) set c items z gone → AllGone gone
      all_gone gone (inl (none, same)) =
          let end = still_stack p exact mid items two.0 two.1 in
          let rest : end.0 ≡ [] = found_none end.0 two.2.0 z (empty_back p z none) (subst (λ (t : ObjState). next p t z ≡ Some two.2.0) end.1 two.2.1) in
          let leaves : LeavesBelow p [] items mid [] = above_nothing mid items [] (subst (λ (t : ObjState). Legal p (Stack items) mid t) (end.1 ∙ ap Stack rest) two.1) in
          ([], sym same ∙ sym (append-nil gone), subst (λ (l : List ℤ). LeavesBelow p [] l mid []) (sym same) leaves)
      all_gone gone (inr (w, (took, lifted), (below, whole, not_above, not_below))) =
          (w ∷ below, whole, above_gone gone w below mid (λ d there pushes. (let left = outside p set s c cs h mid z late m place returns d there in let not_left = lifted d (pushes_puts p d w pushes) in absurd (cc))) not_above not_below z (took_popped p z w took) two.2.0 two.0 (subst (λ (l : List ℤ). Legal p (Stack l) mid two.0) whole two.1) two.2.1)

      -- a call that returned with one of them, which lay there once and is pushed no more, does not stand behind
      not_behind : (gone : List ℤ) → AllGone gone → (y : ℕ) (u : ℤ) → TookLifted (on_queue p) set c y u → Item u gone → (above : List ℤ) → LieAbove items u above → In y late → ⊥
      not_behind gone all y u (took, lifted) there above (rest, whole, not_above, not_rest) behind =
          let at = in_place y late behind in
          let shape : cs ≡ mid ++ ((z ∷ at.0) ++ y ∷ at.1) = place ∙ ap (λ (l : List ℕ). mid ++ z ∷ l) at.2 in
          let so_far : Legal p (Stack items) mid (Stack all.0) = subst (λ (l : List ℤ). Legal p (Stack l) mid (Stack all.0)) (sym all.1) (leaves_legal p exact all.0 mid gone [] all.2) in
          let goes : Legal p (Stack all.0) ((z ∷ at.0) ++ y ∷ at.1) h.continuation.legal.0 = legal_rest p exact mid ((z ∷ at.0) ++ y ∷ at.1) (Stack items) (Stack all.0) h.continuation.legal.0 (subst (λ (l : List ℕ). Legal p (Stack items) l h.continuation.legal.0) shape legal) so_far in
          let split = legal_split p exact (z ∷ at.0) (y ∷ at.1) (Stack all.0) h.continuation.legal.0 goes in
          let never = never_there p exact u (z ∷ at.0) all.0 split.0 split.1 (not_twice items above rest gone all.0 u whole not_above not_rest all.1 there) (λ d in_front pushes. none_pushes d (subst (λ (l : List ℕ). In d l) (sym shape) (in_late d mid ((z ∷ at.0) ++ y ∷ at.1) (in_early d (z ∷ at.0) (y ∷ at.1) in_front))) (lifted d (pushes_puts p d u pushes))) in
          let top = pops_top p exact never.0 split.2.0 y u (took_popped p y u took) (subst (λ (s : ObjState). next p s y ≡ Some split.2.0) never.1 split.2.1) in
          never.2 (subst (λ (l : List ℤ). Item u l) (sym top.1) (inl refl))
        where
          none_pushes : (d : ℕ) → In d cs → is_left set c d ≡ false → ⊥
          none_pushes d there not_left = let left = left_is set c d (h.continuation.outside d (inr there)) (λ e. h.continuation.distinct.0 (subst (λ (n : ℕ). In n cs) e there)) in cc

      -- a call that stands no later is the call, or stands in front of it
      stands_in : (gone : List ℤ) → AllGone gone → (y : ℕ) → StandsBy (on_queue p) set c items gone z y → (y ≡ z) ⊎ In y mid
      stands_in gone all y (inl same) = inl same
      stands_in gone all y (inr (left, (u, took, there, (above, lies)))) =
          let popped = took_popped p y u took.0 in
          let out = left_tells set c y left in
          elim (h.complete y (completed p exact y popped.0 popped.3.0 (Int u) popped.1 popped.3.1)) [
            | inl q ↦ absurd (let e = out.0 in cc)
            | inr (inl e) ↦ absurd (out.1 e)
            | inr (inr q) ↦ elim (in_either y mid (z ∷ late) (subst (λ (l : List ℕ). In y l) place q)) [
              | inl front ↦ inr front
              | inr (inl same) ↦ inl same
              | inr (inr behind) ↦ absurd (not_behind gone all y u took there above lies behind)
            ]
          ]

      -- what returned before such a call was called stands in front of the call that finds them gone
      in_front_of : (y : ℕ) → (y ≡ z) ⊎ In y mid → (b : ℕ) → is_left set c b ≡ true → Before p b y → In b mid
      in_front_of y (inl same) b left before = in_front p set s c cs h mid z late place b left (subst (λ (n : ℕ). Before p b n) same before)
      in_front_of y (inr there) b left before =
          let at = in_place y mid there in
          let shape : cs ≡ at.0 ++ y ∷ (at.1 ++ z ∷ late) = place ∙ ap (λ (l : List ℕ). l ++ z ∷ late) at.2 ∙ append_assoc at.0 (y ∷ at.1) (z ∷ late) in
          subst (λ (l : List ℕ). In b l) (sym at.2) (in_early b at.0 (y ∷ at.1) (in_front p set s c cs h at.0 y (at.1 ++ z ∷ late) shape b left before))

      too_few : (gone : List ℤ) (y : ℕ) → FindsGoneAbove (on_queue p) set c items z gone → StandsBy (on_queue p) set c items gone z y → AreTooFew (on_queue p) set c gone y m → ⊥
      too_few gone y finds stands (vs, lost, fewer) =
          let all = all_gone gone finds in
          let k = popping all.0 mid gone [] all.2 in
          let many = k.enough vs lost.0 (λ v i. (let l = lost.1 v i in (l.0, (λ no. no), comes v l.1))) in
          let few = fewer k.takers (k.distinct (distinct_early mid (z ∷ late) (distinct p set s c cs h mid z late m place returns))) (λ d i. (let l = k.pending d i in called_taker d l.0 l.1)) in
          omega (arith, many, few)
        where
          comes : (v : ℤ) → GoesBefore (on_queue p) set c gone y v → Comes v gone mid
          comes v (inl there) = inl there
          comes v (inr (b, puts, left, before)) = inr (b, in_front_of y (stands_in gone (all_gone gone finds) y stands) b left (before_back p b y before), puts_pushes p b v puts)

  -- no completion begins with the call
  pub pops_begin_none : (set : List Bool) (s : ObjState) (c : ℕ) (items : List ℤ) → IsNext p set s c (Stack items) → LacksPops p set c items → BeginsNone p set s c
  pops_begin_none set s c items is_next (gone, y, z, m, returns, other, finds, stands, few) cs h =
      elim (h.complete z (completed p exact z returns.1.0 m returns.1.2.0 returns.1.1 returns.1.2.1)) [
        | inl q ↦ (let e = returns.0 in cc)
        | inr (inl e) ↦ other e
        | inr (inr there) ↦ (let at = in_place z cs there in too_few set s c items is_next cs h at.0 z at.1 m at.2 returns gone y finds stands few)
      ]

  -- so it is, where it is known
  pub known_pops : {E : Type 0} (set : List Bool) (s : ObjState) (c : ℕ) (t : ObjState) (items : List ℤ) → IsNext p set s c t → t ≡ Stack items → (result : Result Bool E) → IfOk result (λ lacks. IsTrue lacks → LacksPops p set c items) → IfOk result (λ known. IsTrue known → BeginsNone p set s c)
  known_pops set s c t items is_next is (Ok lacks) h = λ yes. pops_begin_none set s c items (subst (λ (u : ObjState). IsNext p set s c u) is is_next) (h yes)
  known_pops set s c t items is_next is (Err e) h = tt

-- ---- what the tests say

-- a call that is left finds gone what the deadline says
pub lacks_pops_is : {E : Type 0} (calls : List (ProblemCall Op Reply)) (p : Problem ObjState Op Reply) (set : List Bool) (c : ℕ) (items gone : List ℤ) (y z m : ℕ) → calls ≡ exchanged_calls p.calls → ReturnsOutside p set z m → (z ≢ c) → FindsGoneAbove (queue_of calls) set c items z gone → StandsBy (queue_of calls) set c items gone z y → (result : Result Bool E) → IfOk result (λ few. IsTrue few → AreTooFew (queue_of calls) set c gone y m) → IfOk result (λ lacks. IsTrue lacks → LacksPops p set c items)
lacks_pops_is calls p set c items gone y z m same returns other finds stands (Ok few) h =
    λ yes. (let all = subst (λ (l : List (ProblemCall Op Reply)). FindsGoneAbove (queue_of l) set c items z gone × StandsBy (queue_of l) set c items gone z y × AreTooFew (queue_of l) set c gone y m) same (finds, stands, h yes) in (gone, y, z, m, returns, other, all.0, all.1, all.2))
lacks_pops_is calls p set c items gone y z m same returns other finds stands (Err e) h = tt

-- a call that returned with what another alone puts in, which is not left; the last two are the numbers that were handed on
pub took_lifted_is : (p : Problem ObjState Op Reply) (set : List Bool) (c a z : ℕ) (v w u t : ℤ) → Puts p a v → Took p z w → v ≡ w → u ≡ v → t ≡ w → is_left set c a ≡ false → goes_in_once (told p.calls u).putters ≡ true → TookLifted p set c z t
took_lifted_is p set c a z v w u t put took same one is free once =
    subst (λ (x : ℤ). TookLifted p set c z x) (sym is) (took, λ d other. subst (λ (n : ℕ). is_left set c n ≡ false) (sym (once_is p w (subst (λ (x : ℤ). goes_in_once (told p.calls x).putters ≡ true) (one ∙ same) once) a (subst (λ (x : ℤ). Puts p a x) same put) d other)) free)

-- a call that is left and returned with one of the items that are gone, which lies there once; the last two are numbers that were handed on
pub stands_by_is : (p : Problem ObjState Op Reply) (set : List Bool) (c : ℕ) (items gone above : List ℤ) (z y : ℕ) (v w x : ℤ) (left there : Bool) → left ≡ is_left set c y → left ≡ true → TookLifted p set c y v → there ≡ is_in w gone → there ≡ true → w ≡ v → x ≡ v → LieAbove items x above → StandsBy p set c items gone z y
stands_by_is p set c items gone above z y v w x left there is so took among found same also lies =
    inr (sym is ∙ so, (v, took, among_value v w gone there among found same, (above, subst (λ (u : ℤ). LieAbove items u above) also lies)))

-- the items above one that is not among them, with one more that is not it, which was handed on
pub above_more : (items above rest above' rest' : List ℤ) (w first passed : ℤ) → items ≡ above ++ rest → (Item w above → ⊥) → slice_get rest 0 ≡ Some first → rest' ≡ drop 1 rest → above' ≡ above ++ passed ∷ [] → passed ≡ first → (first ≡ w → ⊥) → (items ≡ above' ++ rest') × (Item w above' → ⊥)
above_more items above [] above' rest' w first passed whole apart at left more is other = absurd (cc)
above_more items above (x ∷ rest) above' rest' w first passed whole apart at left more is other =
    let same : x ≡ passed = (let e : x ≡ first = cc in e ∙ sym is) in (
      whole ∙ ap (λ (v : ℤ). above ++ v ∷ rest) same ∙ sym (append_assoc above (passed ∷ []) rest) ∙ ap (λ (l : List ℤ). l ++ rest) (sym more) ∙ ap (λ (l : List ℤ). above' ++ l) (sym left),
      λ h. elim (Item_either w above (passed ∷ []) (subst (λ (l : List ℤ). Item w l) more h)) [
        | inl q ↦ apart q
        | inr (inl e) ↦ other (sym is ∙ sym e)
        | inr (inr q) ↦ q
      ],
    )

-- the items above one that is found, which was handed on
pub above_found : (items above rest rest' : List ℤ) (w first passed : ℤ) (b : Bool) → items ≡ above ++ rest → (Item passed above → ⊥) → slice_get rest 0 ≡ Some first → rest' ≡ drop 1 rest → first ≡ w → passed ≡ w → b ≡ is_in passed rest' → b ≡ false → LieAbove items w above
above_found items above [] rest' w first passed b whole apart at left same is there none = absurd (cc)
above_found items above (x ∷ rest) rest' w first passed b whole apart at left same is there none =
    let here : x ≡ w = (let e : x ≡ first = cc in e ∙ same) in
    let not_there : is_in w rest ≡ false = subst (λ (v : ℤ). is_in v rest ≡ false) is (subst (λ (l : List ℤ). is_in passed l ≡ false) left (sym there ∙ none)) in
    (rest, whole ∙ ap (λ (v : ℤ). above ++ v ∷ rest) here, (λ h. apart (subst (λ (v : ℤ). Item v above) (sym is) h)), among_false w rest not_there)
