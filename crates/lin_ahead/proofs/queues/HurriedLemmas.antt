-- An enqueue that hurries its item begins no completion: by the event more is out than lay in the queue, so its item is too.
use Rattle.std.proofs.Common.{◌≡◌, ℕ, zero, suc, ◌+◌, ◌-◌, ◌<◌, ◌≤◌, Bool, true, false, Option, List, [], ◌∷◌, ◌++◌, length, drop, ◌⊎◌, inl, inr, refl, sym, ◌∙◌, ap, subst, append_assoc, append-nil, arith}
use Rattle.std.specs.Prelude.{ℤ, slice_get, nat_le, nat_eq, not, ◌&&◌}
use Rattle.std.specs.Ordering.{int_eq}
use Rattle.std.proofs.lemmas.Bool.Decides.{eqb_tells, leb_tells}
use Rattle.std.proofs.lemmas.List.{at_drop_more}
use Rattle.std.proofs.Math.ListN.{get_or}
use Rattle.lin_object.specs.Kinds.Queue.{put_in_by}
use Rattle.lin_object.specs.declared.op.Op.{Op}
use Rattle.lin_object.specs.declared.reply.Reply.{Reply}
use Rattle.lin_object.specs.declared.state.ObjState.{ObjState}
use Rattle.lin_object.specs.declared.state.ObjState.TheVariants.{Queue}
use Rattle.lin_history.specs.declared.problems.problem.ProblemCall.{ProblemCall}
use Rattle.lin_history.specs.Problems.Problem.{Problem}
use Rattle.lin_history.specs.Problems.Lists.{In, IsDistinct}
use Rattle.lin_history.specs.Problems.ListLemmas.{distinct_early, in_early, in_either}
use Rattle.lin_history.specs.Problems.LegalLists.{Legal}
use Rattle.lin_history.specs.Problems.Continuations.{has, IsCompletion}
use Rattle.lin_ahead.specs.First.FirstProgress.{BeginsNone}
use Rattle.lin_ahead.specs.Queues.Queue.{IsOfQueue}
use Rattle.lin_laws.specs.Items.{Puts}
use Rattle.lin_ahead.specs.Queues.Slots.{calls_on, taken_at, taker_at}
use Rattle.lin_ahead.specs.Queues.Hurried.{times, times_until, left_taken, left_taken_after, left_takers, ComesHurried}
use Rattle.lin_ahead.specs.Items.Takers.{called_by}
use Rattle.lin_laws.specs.Counting.{counted, how_many}
use Rattle.lin_ahead.proofs.items.TakerLemmas.{both_true}
use Rattle.lin_ahead.proofs.queues.QueueLemmas.{has_call, puts_by, puts, legal_split, took_completed}
use Rattle.lin_ahead.proofs.queues.SlotLemmas.{no_fewer, on_distinct, times_joined, times_own, two_fronts, counted_more, and_parts, DoneBy, taken_tells, taker_is_on, may_at, Split, split_at, is_before, Outs, outs, joined_puts, no_later}

-- ---- lists

-- where so many of one item came out of a queue, so did what lay in front of them
one_reached : (w u x : ℤ) (k : ℕ) (xs took : List ℤ) → suc k ≤ times u (x ∷ took) → (suc k - counted (int_eq u x) 0 ≤ times u took → times_until w u (suc k - counted (int_eq u x) 0) xs ≤ times w took) → times_until w u (suc k) (x ∷ xs) ≤ times w (x ∷ took)
one_reached w u x k xs took h more =
    let some : nat_eq (suc k) 0 ≡ false = elim (eqb_tells (suc k) 0) [ inl q ↦ absurd (let e = q.1 in omega (arith, e)) | inr q ↦ q.0 ] in
    let next : times_until w u (suc k) (x ∷ xs) ≡ counted (int_eq w x) 0 + times_until w u (suc k - counted (int_eq u x) 0) xs = rw some refl in
    let a : times w (x ∷ took) ≡ counted (int_eq w x) 0 + times w took = counted_more (int_eq w x) (times w took) in
    let b : times u (x ∷ took) ≡ counted (int_eq u x) 0 + times u took = counted_more (int_eq u x) (times u took) in
    let i = more (omega (arith, b, h)) in
    omega (arith, a, i, next)

reached : (w u : ℤ) (k : ℕ) (items more took rest : List ℤ) → items ++ more ≡ took ++ rest → k ≤ times u took → times_until w u k items ≤ times w took
reached w u k [] more took rest e h = omega arith
reached w u zero (x ∷ xs) more took rest e h = omega arith
reached w u (suc k) (x ∷ xs) more [] rest e h = absurd (omega (arith, h))
reached w u (suc k) (x ∷ xs) more (y ∷ took) rest e h =
    let same : x ≡ y = cc in
    let tail : xs ++ more ≡ took ++ rest = cc in
    let i = reached w u (suc k - counted (int_eq u x) 0) xs more took rest tail in
    subst (λ (z : ℤ). times_until w u (suc k) (x ∷ xs) ≤ times w (z ∷ took)) same (one_reached w u x k xs took (subst (λ (z : ℤ). suc k ≤ times u (z ∷ took)) (sym same) h) i)

-- what is left of the items, where none more is wanted, and one step on
pub until_none : (w u : ℤ) (k i : ℕ) (items : List ℤ) → i < length items → k ≡ 0 → times_until w u k (drop i items) ≡ 0
until_none w u k i items within e = at_drop_more (λ (l : List ℤ). times_until w u k l) items i w within ∙ (rw e refl)

pub until_next : (w u x : ℤ) (k i n m : ℕ) (items : List ℤ) → i < length items → (k ≡ 0 → ⊥) → n ≡ counted (int_eq w (get_or items i x)) 0 → m ≡ counted (int_eq u (get_or items i x)) 0 → times_until w u k (drop i items) ≡ n + times_until w u (k - m) (drop (i + 1) items)
until_next w u x k i n m items within e n_is m_is = at_drop_more (λ (l : List ℤ). times_until w u k l) items i x within ∙ (rw (more, n_is, m_is) refl)
  where
    more : nat_eq k 0 ≡ false
    more = elim (eqb_tells k 0) [ inl q ↦ absurd (e q.1) | inr q ↦ q.0 ]

many_joined : (is : ℕ → Bool) (xs ys : List ℕ) → how_many is (xs ++ ys) ≡ how_many is xs + how_many is ys
many_joined is [] ys = omega arith
many_joined is (x ∷ xs) ys =
    let k = many_joined is xs ys in
    let a = counted_more (is x) (how_many is (xs ++ ys)) in
    let b = counted_more (is x) (how_many is xs) in
    omega (arith, k, a, b)

not_true : (b : Bool) → not b ≡ true → b ≡ false
not_true true e = absurd (cc)
not_true false e = refl

is_not : (b : Bool) → b ≡ false → not b ≡ true
is_not b e = rw e refl

sooner_by : (n m k : ℕ) → n ≤ m → nat_le k n ≡ true → nat_le k m ≡ true
sooner_by n m k less e = elim (leb_tells k m) [
  | inl q ↦ q.0
  | inr q ↦ absurd (let a = no_later k n e in let b = q.1 in omega (arith, a, b, less))
]

-- what was done by an event was done by each later one
done_later : (n m : ℕ) → n ≤ m → (o : Option (ProblemCall Op Reply)) → DoneBy n o → DoneBy m o
done_later n m less o (x, is, (k, r, back, soon), called) =
    (x, is, (k, r, back, omega (arith, soon, less)), rw is (sooner_by n m x.called less (ap (λ (q : Option (ProblemCall Op Reply)). called_by n q) (sym is) ∙ called)))

module _ {p : Problem ObjState Op Reply} {start : List ℤ} (of_queue : IsOfQueue p start) (set : List Bool) (items : List ℤ) (b : ℕ) (cs : List ℕ) (h : IsCompletion p set (Queue items) (b ∷ cs)) where
  abbrev at : ℕ → Option (ProblemCall Op Reply)
  at d = slice_get p.calls d

  abbrev end : ObjState
  end = h.continuation.legal.0

  -- a call that is left and was done by an event does not stand behind the first that was called after it
  soon_in : (event : ℕ) (front back rest : List ℕ) → b ∷ cs ≡ front ++ (back ++ rest) → (back ≡ []) ⊎ ((y : ℕ) × (ys : List ℕ) × (back ≡ y ∷ ys) × (called_by event (at y) ≡ false)) → (d : ℕ) → DoneBy event (at d) → has set d ≡ false → In d (front ++ back) → In d front
  soon_in event front back rest place (inl none) d done out there = subst (λ (l : List ℕ). In d l) (append-nil front) (subst (λ (l : List ℕ). In d (front ++ l)) none there)
  soon_in event front back rest place (inr (y, ys, is, late)) d done out there =
      let shape : b ∷ cs ≡ front ++ y ∷ (ys ++ rest) = place ∙ ap (λ (l : List ℕ). front ++ (l ++ rest)) is in
      let parts = legal_split of_queue front (y ∷ (ys ++ rest)) (Queue items) end (subst (λ (l : List ℕ). Legal p (Queue items) l end) shape h.continuation.legal.1) in
      let goes = parts.2 in
      let call = has_call of_queue parts.0 goes.0 y goes.1 in
      elim (h.continuation.ordered front y (ys ++ rest) shape d (is_before p event d y call.0 done call.1 late)) [
        | inl q ↦ absurd (let e = out in cc)
        | inr q ↦ q
      ]

  -- it is one of the completion
  there : (event d : ℕ) → DoneBy event (at d) → has set d ≡ false → In d (b ∷ cs)
  there event d (x, is, (n, r, back, soon), called) out = elim (h.complete d (took_completed of_queue d x n r is back)) [
    | inl q ↦ absurd (let e = out in cc)
    | inr q ↦ q
  ]

  module _ (since event : ℕ) (sooner : since ≤ event) where
    far : Split p event (b ∷ cs)
    far = split_at p event (b ∷ cs)

    near : Split p since far.front
    near = split_at p since far.front

    parts : (t : ObjState) × Legal p (Queue items) far.front t × Legal p t far.back end
    parts = legal_split of_queue far.front far.back (Queue items) end (subst (λ (l : List ℕ). Legal p (Queue items) l end) far.place h.continuation.legal.1)

    parts_near : (t : ObjState) × Legal p (Queue items) near.front t × Legal p t near.back parts.0
    parts_near = legal_split of_queue near.front near.back (Queue items) parts.0 (subst (λ (l : List ℕ). Legal p (Queue items) l parts.0) near.place parts.1)

    one : Outs of_queue items near.front parts_near.0
    one = outs of_queue near.front items parts_near.0 parts_near.1

    two : Outs of_queue one.rest near.back parts.0
    two = outs of_queue near.back one.rest parts.0 (subst (λ (u : ObjState). Legal p u near.back parts.0) one.ends parts_near.2)

    abbrev took : List ℤ
    took = one.took ++ two.took

    same : items ++ puts of_queue far.front ≡ took ++ two.rest
    same =
        ap (λ (l : List ℕ). items ++ puts of_queue l) near.place
        ∙ ap (λ (l : List ℤ). items ++ l) (joined_puts of_queue near.front near.back)
        ∙ sym (append_assoc items (puts of_queue near.front) (puts of_queue near.back))
        ∙ ap (λ (l : List ℤ). l ++ puts of_queue near.back) one.same
        ∙ append_assoc one.took one.rest (puts of_queue near.back)
        ∙ ap (λ (l : List ℤ). one.took ++ l) two.same
        ∙ sym (append_assoc one.took two.took two.rest)

    far_in : (d : ℕ) → DoneBy event (at d) → has set d ≡ false → In d far.front
    far_in d done out = soon_in event far.front far.back [] (far.place ∙ ap (λ (l : List ℕ). far.front ++ l) (sym (append-nil far.back))) far.ends d done out (subst (λ (l : List ℕ). In d l) far.place (there event d done out))

    near_in : (d : ℕ) → DoneBy since (at d) → has set d ≡ false → In d near.front
    near_in d done out =
        let whole : b ∷ cs ≡ near.front ++ (near.back ++ far.back) = far.place ∙ ap (λ (l : List ℕ). l ++ far.back) near.place ∙ append_assoc near.front near.back far.back in
        soon_in since near.front near.back far.back whole near.ends d done out (subst (λ (l : List ℕ). In d l) near.place (far_in d (done_later since event sooner (at d) done) out))

    first_out : (u : ℤ) → left_taken p.calls set u since (calls_on u 0 p.calls) ≤ times u one.took
    first_out u =
        let a = no_fewer (λ d. not (has set d) && taken_at u since (slice_get p.calls d)) (λ d. taken_at u since (slice_get p.calls d)) (calls_on u 0 p.calls) near.front (on_distinct u 0 p.calls) (λ d i so. (let q = and_parts (not (has set d)) (taken_at u since (slice_get p.calls d)) so in (near_in d (taken_tells u since (slice_get p.calls d) q.1) (not_true (has set d) q.0), q.1))) in
        let c = one.least u since in
        omega (arith, a, c)

    then_out : (w : ℤ) → left_taken_after p.calls set w since event (calls_on w 0 p.calls) ≤ times w two.took
    then_out w =
        let a = no_fewer (λ d. not (called_by since (slice_get p.calls d)) && (not (has set d) && taken_at w event (slice_get p.calls d))) (λ d. taken_at w event (slice_get p.calls d)) (calls_on w 0 p.calls) near.back (on_distinct w 0 p.calls) (λ d i so. (
        let q = and_parts (not (called_by since (slice_get p.calls d))) (not (has set d) && taken_at w event (slice_get p.calls d)) so in
        let r = and_parts (not (has set d)) (taken_at w event (slice_get p.calls d)) q.1 in
        let late = not_true (called_by since (slice_get p.calls d)) q.0 in
        let inside = far_in d (taken_tells w event (slice_get p.calls d) r.1) (not_true (has set d) r.0) in (
          elim (in_either d near.front near.back (subst (λ (l : List ℕ). In d l) near.place inside)) [
            | inl k ↦ absurd (let f = near.by d k in cc)
            | inr k ↦ k
          ],
          r.1,
        ))) in
        let c = two.least w event in
        omega (arith, a, c)

    takers : (v : ℤ) → times v took ≤ left_takers p.calls set v event (calls_on v 0 p.calls)
    takers v =
        let all : how_many (λ d. may_at v (slice_get p.calls d)) far.front ≡ how_many (λ d. may_at v (slice_get p.calls d)) near.front + how_many (λ d. may_at v (slice_get p.calls d)) near.back = ap (how_many (λ d. may_at v (slice_get p.calls d))) near.place ∙ many_joined (λ d. may_at v (slice_get p.calls d)) near.front near.back in
        let few = no_fewer (λ d. may_at v (slice_get p.calls d)) (λ d. not (has set d) && taker_at v event (slice_get p.calls d)) far.front (calls_on v 0 p.calls) (distinct_early far.front far.back (subst IsDistinct far.place h.continuation.distinct)) (λ d i so. (
        let q = taker_is_on p v event d (slice_get p.calls d) refl so (far.by d i) in
        let out = h.continuation.outside d (subst (λ (l : List ℕ). In d l) (sym far.place) (in_early d far.front far.back i)) in
        (q.0, both_true (is_not (has set d) out) q.1))) in
        let a = one.most v in
        let c = two.most v in
        let j = times_joined v one.took two.took in
        omega (arith, all, few, a, c, j)

    order : (v : ℤ) → Puts p b v → took ++ (two.rest ++ puts of_queue far.back) ≡ items ++ v ∷ puts of_queue cs
    order v put =
        sym (append_assoc took two.rest (puts of_queue far.back))
        ∙ ap (λ (l : List ℤ). l ++ puts of_queue far.back) (sym same)
        ∙ append_assoc items (puts of_queue far.front) (puts of_queue far.back)
        ∙ ap (λ (l : List ℤ). items ++ l) (sym (joined_puts of_queue far.front far.back) ∙ ap (puts of_queue) (sym far.place))
        ∙ ap (λ (l : List ℤ). items ++ (l ++ puts of_queue cs)) (ap (puts_by of_queue) put.1 ∙ ap put_in_by put.2)

    hurried : (v u w : ℤ) → Puts p b v → left_takers p.calls set v event (calls_on v 0 p.calls) ≤ times v items → times w items < times_until w u (left_taken p.calls set u since (calls_on u 0 p.calls)) items + left_taken_after p.calls set w since event (calls_on w 0 p.calls) → ⊥
    hurried v u w put few more = elim (two_fronts took (two.rest ++ puts of_queue far.back) items v (puts of_queue cs) (order v put)) [
      | inl q ↦ (
          let joined = ap (times w) q.1 ∙ times_joined w took q.0 in
          let both = times_joined w one.took two.took in
          let a = reached w u (left_taken p.calls set u since (calls_on u 0 p.calls)) items (puts of_queue near.front) one.took one.rest one.same (first_out u) in
          let c = then_out w in
          omega (arith, joined, both, a, c, more))
      | inr q ↦ (
          let joined = ap (times v) q.1 ∙ times_joined v items (v ∷ q.0) in
          let own = times_own v q.0 in
          let a = takers v in
          omega (arith, joined, own, a, few))
    ]

-- no completion of a configuration begins with such an enqueue
pub hurried_begins_none : (p : Problem ObjState Op Reply) (start : List ℤ) → IsOfQueue p start → (set : List Bool) (s : ObjState) (items : List ℤ) → s ≡ Queue items → (b : ℕ) → ComesHurried p set items b → BeginsNone p set s b
hurried_begins_none p start of_queue set s items is b (v, put, (event, few, (since, sooner, (u, w, more)))) cs h =
    hurried of_queue set items b cs (subst (λ (t : ObjState). IsCompletion p set t (b ∷ cs)) is h) since event sooner v u w put few more
