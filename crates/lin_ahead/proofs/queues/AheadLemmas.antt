-- What is told ahead of a queue's problem is right, and is all that its calls tell by real time.
use Rattle.std.proofs.Common.{◌≡◌, ℕ, zero, suc, ◌+◌, ◌<◌, ◌≤◌, ◌^◌, Bool, true, false, Option, Some, None, List, [], ◌∷◌, refl, sym, ◌∙◌, ap, subst, arith}
use Rattle.std.specs.Prelude.{ℤ, slice_get, if◌then◌else◌}
use Rattle.std.proofs.lemmas.List.{length-map}
use Rattle.lin_object.specs.declared.op.Op.{Op}
use Rattle.lin_object.specs.declared.op.Op.TheVariants.{Enqueue, Dequeue}
use Rattle.lin_object.specs.declared.reply.Reply.{Reply}
use Rattle.lin_object.specs.declared.reply.Reply.TheVariants.{Okay, Int, Flag, Empty}
use Rattle.lin_object.specs.declared.state.ObjState.{ObjState}
use Rattle.lin_object.specs.declared.state.ObjState.TheVariants.{Queue}
use Rattle.lin_history.specs.declared.problems.problem.ProblemCall.{ProblemCall}
use Rattle.lin_history.specs.Problems.ProblemParts.{ProblemParts, AreTimed}
use Rattle.lin_history.specs.Problems.Problem.{Problem}
use Rattle.lin_ahead.specs.declared.items.item_calls.ItemCalls.{ItemCalls}
use Rattle.lin_history.specs.Problems.AnyProblem.{any_problem}
use Rattle.std.specs.Ordering.{int_eq}
use Rattle.indexmap.specs.IndexMap.{get}
use Rattle.lin_ahead.specs.Items.ItemCalls.{goes_in_once, nothing_told, told, told_in, least_pending}
use Rattle.lin_ahead.specs.Items.Owed.{HasReply, IsOwed, AreOwed}
use Rattle.lin_ahead.specs.Behind.{AreNeedsBehind, IsRightOfQueue, NeedsBehind}
use Rattle.lin_ahead.specs.Items.CallNumbers.{by_row, from_row}
use Rattle.lin_ahead.specs.Queues.ToldOfQueue.{took_once, once_row, taken_number, taken_row, is_taker, takers_from, PutOnce, IsTaker, AreLateEnqueues, IsToldOfQueue}
use Rattle.lin_ahead.specs.declared.queues.rows.QueueAhead.{QueueAhead}
use Rattle.lin_ahead.specs.Queues.Queue.{OnlyPuts}
use Rattle.lin_laws.specs.Items.{Puts, Took}
use Rattle.lin_history.specs.ReplyLemmas.{reply_same}
use Rattle.lin_ahead.proofs.queues.AnyLemmas.{of_any, known}
use Rattle.lin_ahead.proofs.items.ExactLemmas.{alone, below_takers, are_numbers}
use Rattle.lin_ahead.proofs.queues.QueueLateLemmas.{no_enqueue_late}
use Rattle.lin_ahead.proofs.queues.NumberLemmas.{taken_need}
use Rattle.lin_ahead.proofs.queues.QueueLemmas.{owed_item}
use Rattle.lin_ahead.proofs.items.RowLemmas.{through, seen_through, by_row_is, bounds}
use Rattle.lin_ahead.proofs.items.ToldLemmas.{same_reply, less, one_alone}

-- a call that took an item that goes in once, by its operation and its return
abbrev TakesOnce : (ℤ → ItemCalls) → Op → Option (ℕ × Reply) → Type 0
TakesOnce told op back = (v : ℤ) × (n : ℕ) × (op ≡ Dequeue) × (back ≡ Some (n, Int v)) × (goes_in_once (told v).putters ≡ true)

takes_once : (told : ℤ → ItemCalls) (op : Op) (back : Option (ℕ × Reply)) → took_once told op back ≡ true → TakesOnce told op back
takes_once told Dequeue (Some (n, Int v)) e = (v, n, refl, refl, e)
takes_once told Dequeue None e = absurd (cc)
takes_once told Dequeue (Some (n, Okay)) e = absurd (cc)
takes_once told Dequeue (Some (n, Flag b)) e = absurd (cc)
takes_once told Dequeue (Some (n, Empty)) e = absurd (cc)
takes_once told op back e = absurd (cc)

-- a flagged call took an item that no two calls put in
pub flagged_took : (p : Problem ObjState Op Reply) (c : ℕ) → slice_get (once_row (told p.calls) p.calls) c ≡ Some true → (v : ℤ) × Took p c v × PutOnce p v
flagged_took p c e =
    let k = through (λ (x : ProblemCall Op Reply). took_once (told p.calls) x.op x.returned) p.calls c true e in
    let took = takes_once (told p.calls) k.0.op k.0.returned k.2 in
    (took.0, (k.0, k.1, took.2, (took.1, took.3)), λ a b x y. one_alone nothing_told p.calls took.0 refl took.4 a b x y)

pub took_flagged : (p : Problem ObjState Op Reply) (a c : ℕ) (v : ℤ) → Puts p a v → OnlyPuts p a v → Took p c v → slice_get (once_row (told p.calls) p.calls) c ≡ Some true
took_flagged p a c v puts only took =
    let x = took.0 in
    let once : took_once (told p.calls) x.op x.returned ≡ true = rw (took.2, took.3.1) (alone p a v puts only) in
    seen_through (λ (y : ProblemCall Op Reply). took_once (told p.calls) y.op y.returned) p.calls c x took.1 ∙ ap Some once

-- ---- the takers

taker_op : (op : Op) (back : Option (ℕ × Reply)) → is_taker op back ≡ true → (op ≡ Dequeue) × (back ≡ None)
taker_op Dequeue None e = (refl, refl)
taker_op Dequeue (Some r) e = absurd (cc)
taker_op op back e = absurd (cc)

-- an element of the list of takers
abbrev TakerAt : ℕ → List (ProblemCall Op Reply) → ℕ → Type 0
TakerAt n calls c = (k : ℕ) × (x : ProblemCall Op Reply) × (c ≡ n + k) × (slice_get calls k ≡ Some x) × (is_taker x.op x.returned ≡ true)

taker_behind : (n : ℕ) (x : ProblemCall Op Reply) (xs : List (ProblemCall Op Reply)) (c : ℕ) → TakerAt (n + 1) xs c → TakerAt n (x ∷ xs) c
taker_behind n x xs c (k, y, e, there, is) = (suc k, y, omega (arith, e), there, is)

listed : (n : ℕ) (calls : List (ProblemCall Op Reply)) (i c : ℕ) → slice_get (takers_from n calls) i ≡ Some c → TakerAt n calls c
listed n [] i c e = absurd (cc)
listed n (x ∷ xs) i c e = go (is_taker x.op x.returned) refl i e (λ k f. listed (n + 1) xs k c f)
  where
    go : (b : Bool) → is_taker x.op x.returned ≡ b → (i : ℕ) → slice_get (if b then n ∷ takers_from (n + 1) xs else takers_from (n + 1) xs) i ≡ Some c → ((k : ℕ) → slice_get (takers_from (n + 1) xs) k ≡ Some c → TakerAt (n + 1) xs c) → TakerAt n (x ∷ xs) c
    go true f zero e more = (zero, x, (let h : n ≡ c = cc in omega (arith, h)), refl, f)
    go true f (suc i) e more = taker_behind n x xs c (more i e)
    go false f i e more = taker_behind n x xs c (more i e)

every_listed : (n : ℕ) (calls : List (ProblemCall Op Reply)) (k : ℕ) (x : ProblemCall Op Reply) → slice_get calls k ≡ Some x → is_taker x.op x.returned ≡ true → (i : ℕ) × (slice_get (takers_from n calls) i ≡ Some (n + k))
every_listed n [] k x e f = absurd (cc)
every_listed n (y ∷ ys) zero x e f =
    let same : y ≡ x = cc in
    let is : is_taker y.op y.returned ≡ true = subst (λ (z : ProblemCall Op Reply). is_taker z.op z.returned ≡ true) (sym same) f in
    rw is (zero, ap Some (omega arith))
every_listed n (y ∷ ys) (suc k) x e f = go (is_taker y.op y.returned) refl (every_listed (n + 1) ys k x e f)
  where
    number : Some (n + 1 + k) ≡ Some (n + suc k)
    number = ap Some (omega arith)

    go : (b : Bool) → is_taker y.op y.returned ≡ b → (i : ℕ) × (slice_get (takers_from (n + 1) ys) i ≡ Some (n + 1 + k)) → (i : ℕ) × (slice_get (if is_taker y.op y.returned then n ∷ takers_from (n + 1) ys else takers_from (n + 1) ys) i ≡ Some (n + suc k))
    go true g h = rw g (suc h.0, h.1 ∙ number)
    go false g h = rw g (h.0, h.1 ∙ number)

takers_are : (p : Problem ObjState Op Reply) (i c : ℕ) → slice_get (takers_from 0 p.calls) i ≡ Some c → IsTaker p c
takers_are p i c e =
    let k = listed 0 p.calls i c e in
    let same : k.0 ≡ c = (let h = k.2 in omega (arith, h)) in
    let op = taker_op k.1.op k.1.returned k.4 in
    (k.1, subst (λ (n : ℕ). slice_get p.calls n ≡ Some k.1) same k.3, op.0, op.1)

pub every_taker : (p : Problem ObjState Op Reply) (c : ℕ) → IsTaker p c → (i : ℕ) × (slice_get (takers_from 0 p.calls) i ≡ Some c)
every_taker p c (x, there, op, back) =
    let k = every_listed 0 p.calls c x there (rw (op, back) refl) in
    (k.0, k.1 ∙ ap Some (omega arith))

takers_rise : (n : ℕ) (calls : List (ProblemCall Op Reply)) (i j c d : ℕ) → slice_get (takers_from n calls) i ≡ Some c → slice_get (takers_from n calls) j ≡ Some d → i < j → c < d
takers_rise n [] i j c d e f h = absurd (cc)
takers_rise n (x ∷ xs) i j c d e f h = go (is_taker x.op x.returned) i j e f h (λ k m a b l. takers_rise (n + 1) xs k m c d a b l) (λ k a. listed (n + 1) xs k d a)
  where
    go : (b : Bool) (i j : ℕ) → slice_get (if b then n ∷ takers_from (n + 1) xs else takers_from (n + 1) xs) i ≡ Some c → slice_get (if b then n ∷ takers_from (n + 1) xs else takers_from (n + 1) xs) j ≡ Some d → i < j
        → ((k m : ℕ) → slice_get (takers_from (n + 1) xs) k ≡ Some c → slice_get (takers_from (n + 1) xs) m ≡ Some d → k < m → c < d) → ((k : ℕ) → slice_get (takers_from (n + 1) xs) k ≡ Some d → TakerAt (n + 1) xs d) → c < d
    go true zero zero e f h more later = absurd (omega (arith, h))
    go true zero (suc j) e f h more later = let at = (later j f).2 in let same : n ≡ c = cc in omega (arith, at, same)
    go true (suc i) zero e f h more later = absurd (omega (arith, h))
    go true (suc i) (suc j) e f h more later = more i j e f (omega (arith, h))
    go false i j e f h more later = more i j e f h

-- ---- the numbers by takers that have returned

taken_at : (p : Problem ObjState Op Reply) (b n : ℕ) (v : ℤ) → slice_get (taken_row (told p.calls) p.calls) b ≡ Some n → Puts p b v → n ≡ (told p.calls v).called
taken_at p b n v e (x, there, op) =
    let k = through (λ (y : ProblemCall Op Reply). taken_number (told p.calls) y.op) p.calls b n e in
    let same : k.0 ≡ x = (let h = k.1 in cc) in
    sym k.2 ∙ ap (λ (y : ProblemCall Op Reply). taken_number (told p.calls) y.op) same ∙ ap (λ (o : Op). taken_number (told p.calls) o) op

pub is_told : (p : Problem ObjState Op Reply) → AreTimed p.calls → (ahead : QueueAhead) → ahead.needs.by ≡ by_row (told p.calls) p.calls → ahead.needs.from ≡ from_row (told p.calls) (least_pending p.calls) p.calls → ahead.taken.items ≡ taken_row (told p.calls) p.calls → ahead.items.takers.items ≡ takers_from 0 p.calls → ahead.items.owed.items ≡ once_row (told p.calls) p.calls → AreLateEnqueues p.calls ahead.late → IsToldOfQueue p ahead
is_told p timed ahead bys froms taken takers owed late = record {
  numbers = are_numbers p timed ahead.needs bys froms;
  owed = λ c e. flagged_took p c (rw (← owed) e);
  each_owed = rw owed (length-map p.calls _);
  every_owed = λ a c v puts only took. rw owed (took_flagged p a c v puts only took);
  each_taken = rw taken (length-map p.calls _);
  taken = λ b n v e put. (
      let is : n ≡ (told p.calls v).called = taken_at p b n v (rw (← taken) e) put in
      let few : (told p.calls v).called ≤ 2 ^ 32 = (less nothing_told p.calls v).1 in
      ((omega (arith, is, few), λ j took. (bounds p timed v n (omega (arith, is)) j took).0), λ k h. (let below = below_takers p k v h.0 h.1 in omega (arith, is, below))));
  takers = λ i c e. takers_are p i c (rw (← takers) e);
  every_taker = λ c is. rw takers (every_taker p c is);
  rising_takers = λ i j c d e f h. takers_rise 0 p.calls i j c d (rw (← takers) e) (rw (← takers) f) h;
  late = late;
}

module _ {Object : Type 0} (p : ProblemParts Object ObjState Op Reply) where
  owed_to : p.start ≡ Queue [] → (c : ℕ) (r : Reply) (v : ℤ) → Took (any_problem p) c v → PutOnce (any_problem p) v → HasReply (any_problem p) c r → IsOwed (any_problem p) r
  owed_to start c r v took once (x, there, (m, (q, back, same))) =
      let one : x ≡ took.0 = (let a = took.1 in cc) in
      let item : q ≡ Int v = same_reply m took.3.0 q (Int v) (sym back ∙ ap (λ (y : ProblemCall Op Reply). y.returned) one ∙ took.3.1) in
      subst (λ (a : Reply). IsOwed (any_problem p) a) (sym (reply_same r q same ∙ item)) (owed_item (of_any p [] start) v c once (λ h. h) took)

  are_owed : p.start ≡ Queue [] → AreOwed (any_problem p) (once_row (told p.calls) p.calls)
  are_owed start c r e reply =
      let k = flagged_took (any_problem p) c e in
      owed_to start c r k.0 k.1 k.2 reply

  are_behind : p.start ≡ Queue [] → AreTimed p.calls → AreNeedsBehind (any_problem p) (by_row (told p.calls) p.calls) (taken_row (told p.calls) p.calls) (takers_from 0 p.calls)
  are_behind start timed set a b m n there here below others =
      let k = through (λ (y : ProblemCall Op Reply). taken_number (told p.calls) y.op) p.calls b n here in
      go k.0 k.1 k.0.op refl k.2
    where
      go : (x : ProblemCall Op Reply) → slice_get p.calls b ≡ Some x → (op : Op) → x.op ≡ op → taken_number (told p.calls) op ≡ n → NeedsBehind (any_problem p) set a b
      go x is (Enqueue v) e f =
          let few : (told p.calls v).called ≤ 2 ^ 32 = (less nothing_told p.calls v).1 in
          taken_need (of_any p [] start) set a b m n v (takers_from 0 p.calls) (by_row_is (any_problem p) a m there) (omega (arith, below, f, few)) (x, is, e) (bounds (any_problem p) timed v n (omega (arith, f))) below (every_taker (any_problem p)) others
      go x is op e f = absurd (omega (arith, below, f))

  pub is_right : p.start ≡ Queue [] → AreTimed p.calls → (ahead : QueueAhead) → ahead.needs.by ≡ by_row (told p.calls) p.calls → ahead.needs.from ≡ from_row (told p.calls) (least_pending p.calls) p.calls → ahead.taken.items ≡ taken_row (told p.calls) p.calls → ahead.items.takers.items ≡ takers_from 0 p.calls → ahead.items.owed.items ≡ once_row (told p.calls) p.calls → AreLateEnqueues p.calls ahead.late → ((v : ℤ) → told_in (get int_eq ahead.items.told) v ≡ told p.calls v) → IsRightOfQueue (any_problem p) ahead
  is_right start timed ahead bys froms taken takers owed late items = record {
    start = start;
    needs = (let k = known p ahead.needs start timed bys froms in record { each_by = k.each_by; each_from = k.each_from; needed = λ a b m n there here below other. k.needed a b m n there here below });
    behind = rw (bys, taken, takers) (are_behind start timed);
    owed = rw owed (are_owed start);
    late = no_enqueue_late (of_any p [] start) ahead.late late timed;
    calls = (items, takers);
  }
