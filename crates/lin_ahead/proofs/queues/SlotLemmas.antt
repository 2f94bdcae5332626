-- An enqueue of an item begins no completion where by an event as many calls as are lifted may have taken it, and more of another
-- item came out than went in, or the queue was found empty.
use Rattle.std.proofs.Common.{◌≡◌, ℕ, zero, suc, ◌+◌, ◌<◌, ◌≤◌, Bool, true, false, Option, Some, None, List, [], ◌∷◌, ◌++◌, length, ◌⊎◌, inl, inr, refl, sym, ◌∙◌, ap, subst, append_assoc, append-nil, arith}
use Rattle.std.specs.Prelude.{ℤ, slice_get, IfSome, nat_le, ◌&&◌, if◌then◌else◌}
use Rattle.std.specs.Ordering.{int_eq}
use Rattle.std.proofs.lemmas.Bool.Decides.{leb_tells}
use Rattle.std.specs.Cmp.{signed_Decides}
use Rattle.lin_object.specs.Kinds.Queue.{queue_step, put_in_by, taken_out_by}
use Rattle.lin_object.specs.declared.op.Op.{Op}
use Rattle.lin_object.specs.declared.op.Op.TheVariants.{Enqueue, Dequeue}
use Rattle.lin_object.specs.declared.reply.Reply.{Reply}
use Rattle.lin_object.specs.declared.reply.Reply.TheVariants.{Okay, Int, Flag, Empty}
use Rattle.lin_object.specs.declared.state.ObjState.{ObjState}
use Rattle.lin_object.specs.declared.state.ObjState.TheVariants.{Queue}
use Rattle.lin_history.specs.declared.problems.problem.ProblemCall.{ProblemCall}
use Rattle.lin_history.specs.Problems.Problem.{Problem}
use Rattle.lin_history.specs.Problems.Lists.{In, IsDistinct}
use Rattle.lin_history.specs.Problems.ListLemmas.{distinct_early, in_late, in_either, in_place}
use Rattle.lin_history.specs.Problems.LegalLists.{next, Legal}
use Rattle.lin_history.specs.Problems.Precedence.{Before}
use Rattle.lin_history.specs.Problems.Continuations.{has}
use Rattle.lin_history.specs.Problems.Linearizations.{IsRun, IsLinearization}
use Rattle.lin_ahead.specs.Queues.Queue.{IsOfQueue}
use Rattle.lin_laws.specs.Items.{Puts}
use Rattle.lin_ahead.specs.First.FirstProgress.{BeginsNone}
use Rattle.lin_history.specs.Problems.Configurations.{IsReachable}
use Rattle.lin_search.specs.AlikeLemmas.{AreAlike}
use Rattle.lin_ahead.specs.Queues.Slots.{FoundEmptyBy, ComesTooEarly, LacksEnqueues, put_by, called_puts, puts_it, may_take, concerns, calls_on, put_at, taker_at, took_by, taken_at, lifted_puts, takers_by, taken_by}
use Rattle.lin_ahead.specs.Items.Takers.{called_by}
use Rattle.lin_laws.specs.Counting.{counted, how_many}
use Rattle.lin_ahead.specs.Queues.Hurried.{times}
use Rattle.lin_ahead.proofs.items.TakerLemmas.{without_call, both_true}
use Rattle.lin_ahead.proofs.queues.QueueLemmas.{QueueStep, queue_leaves, queue_empty, replied, stepped, has_call, fits_recorded, puts_by, puts, chain, legal_split, took_completed}
use Rattle.lin_history.specs.Problems.LegalLists.{fits}
use Rattle.lin_laws.specs.AnswerLemmas.{Is}
use Rattle.lin_ahead.proofs.first.NeedsLemmas.{not_before, stands, joined}

-- ---- how many calls of a list are so

pub counted_more : (b : Bool) (n : ℕ) → counted b n ≡ counted b 0 + n
counted_more true n = omega arith
counted_more false n = omega arith

-- different calls of the list that are so are at most as many as are counted
within : (is : ℕ → Bool) (ds ts : List ℕ) → IsDistinct ts → ((d : ℕ) → In d ts → In d ds × (is d ≡ true)) → length ts ≤ how_many is ds
within is [] [] distinct h = omega arith
within is [] (t ∷ ts) distinct h = absurd (h t (inl refl)).0
within is (d ∷ ds) ts distinct h = go (is d) refl (λ ts' distinct' h'. within is ds ts' distinct' h')
  where
    go : (b : Bool) → is d ≡ b → ((ts' : List ℕ) → IsDistinct ts' → ((e : ℕ) → In e ts' → In e ds × (is e ≡ true)) → length ts' ≤ how_many is ds) → length ts ≤ counted (is d) (how_many is ds)
    go true so more =
        let less = without_call d ts distinct in
        let k = more less.left less.distinct (λ e i. (let w = less.within e i in let q = h e w.0 in (elim q.0 [ inl same ↦ absurd (w.1 same) | inr there ↦ there ], q.1))) in
        let few = less.few in
        rw so (omega (arith, k, few))
    go false so more =
        let k = more ts distinct (λ e i. (let q = h e i in (elim q.0 [ inl same ↦ absurd (let x = subst (λ (u : ℕ). is u ≡ true) same q.1 in cc) | inr there ↦ there ], q.1))) in
        rw so k

-- those of a list that are so
record Chosen (is : ℕ → Bool) (ds : List ℕ) : Type 0 where
  these : List ℕ
  distinct : IsDistinct these
  each : (d : ℕ) → In d these → In d ds × (is d ≡ true)
  count : length these ≡ how_many is ds

chosen : (is : ℕ → Bool) (ds : List ℕ) → IsDistinct ds → Chosen is ds
chosen is [] distinct = record { these = []; distinct = tt; each = λ d h. absurd h; count = refl }
chosen is (d ∷ ds) distinct = go (is d) refl (chosen is ds distinct.1)
  where
    go : (b : Bool) → is d ≡ b → Chosen is ds → Chosen is (d ∷ ds)
    go true so k = record {
      these = d ∷ k.these;
      distinct = ((λ h. distinct.0 (k.each d h).0), k.distinct);
      each = λ e h. elim h [ inl same ↦ (inl same, subst (λ (u : ℕ). is u ≡ true) (sym same) so) | inr more ↦ (let q = k.each e more in (inr q.0, q.1)) ];
      count = rw so (let e = k.count in omega (arith, e));
    }
    go false so k = record {
      these = k.these;
      distinct = k.distinct;
      each = λ e h. (let q = k.each e h in (inr q.0, q.1));
      count = rw so k.count;
    }

-- where each of a list that is so is one of another list that is as asked there, these are no fewer
pub no_fewer : (is so : ℕ → Bool) (ds es : List ℕ) → IsDistinct ds → ((d : ℕ) → In d ds → is d ≡ true → In d es × (so d ≡ true)) → how_many is ds ≤ how_many so es
no_fewer is so ds es distinct h =
    let k = chosen is ds distinct in
    subst (λ (n : ℕ). n ≤ how_many so es) k.count (within so es k.these k.distinct (λ d i. let q = k.each d i in h d q.0 q.1))

-- ---- the calls on an item

on_from : (v : ℤ) (n : ℕ) (calls : List (ProblemCall Op Reply)) (d : ℕ) → In d (calls_on v n calls) → n ≤ d
on_from v n [] d h = absurd h
on_from v n (c ∷ cs) d h = go (concerns v c.op c.returned) h (on_from v (n + 1) cs d)
  where
    go : (b : Bool) → In d (if b then n ∷ calls_on v (n + 1) cs else calls_on v (n + 1) cs) → (In d (calls_on v (n + 1) cs) → n + 1 ≤ d) → n ≤ d
    go true h more = elim h [ inl e ↦ omega (arith, e) | inr k ↦ (let q = more k in omega (arith, q)) ]
    go false h more = (let q = more h in omega (arith, q))

pub on_distinct : (v : ℤ) (n : ℕ) (calls : List (ProblemCall Op Reply)) → IsDistinct (calls_on v n calls)
on_distinct v n [] = tt
on_distinct v n (c ∷ cs) = go (concerns v c.op c.returned) (on_distinct v (n + 1) cs)
  where
    go : (b : Bool) → IsDistinct (calls_on v (n + 1) cs) → IsDistinct (if b then n ∷ calls_on v (n + 1) cs else calls_on v (n + 1) cs)
    go true more = ((λ h. let q = on_from v (n + 1) cs n h in omega (arith, q)), more)
    go false more = more

every_on : (v : ℤ) (n : ℕ) (calls : List (ProblemCall Op Reply)) (k : ℕ) (x : ProblemCall Op Reply) → slice_get calls k ≡ Some x → concerns v x.op x.returned ≡ true → In (n + k) (calls_on v n calls)
every_on v n [] k x e so = absurd (cc)
every_on v n (c ∷ cs) zero x e so =
    let same : c ≡ x = cc in
    let is : concerns v c.op c.returned ≡ true = subst (λ (z : ProblemCall Op Reply). concerns v z.op z.returned ≡ true) (sym same) so in
    rw is (inl (omega arith))
every_on v n (c ∷ cs) (suc k) x e so = go (concerns v c.op c.returned) (subst (λ (m : ℕ). In m (calls_on v (n + 1) cs)) (omega arith) (every_on v (n + 1) cs k x e so))
  where
    go : (b : Bool) → In (n + suc k) (calls_on v (n + 1) cs) → In (n + suc k) (if b then n ∷ calls_on v (n + 1) cs else calls_on v (n + 1) cs)
    go true h = inr h
    go false h = h

-- ---- how often an item is in a list

pub times_joined : (v : ℤ) (xs ys : List ℤ) → times v (xs ++ ys) ≡ times v xs + times v ys
times_joined v [] ys = omega arith
times_joined v (x ∷ xs) ys =
    let k = times_joined v xs ys in
    let a = counted_more (int_eq v x) (times v (xs ++ ys)) in
    let b = counted_more (int_eq v x) (times v xs) in
    omega (arith, k, a, b)

pub times_own : (v : ℤ) (xs : List ℤ) → times v (v ∷ xs) ≡ times v xs + 1
times_own v xs = ap (λ (b : Bool). counted b (times v xs)) ((signed_Decides v v).1 refl)

-- of two lists with one join: the first ends before an item of the second, or has it
pub two_fronts : (xs ys front : List ℤ) (w : ℤ) (rest : List ℤ) → xs ++ ys ≡ front ++ w ∷ rest → ((more : List ℤ) × (front ≡ xs ++ more)) ⊎ ((more : List ℤ) × (xs ≡ front ++ w ∷ more))
two_fronts [] ys front w rest e = inl (front, refl)
two_fronts (x ∷ xs) ys [] w rest e = inr (xs, (let h : x ≡ w = cc in ap (λ (y : ℤ). y ∷ xs) h))
two_fronts (x ∷ xs) ys (z ∷ front) w rest e =
    let h : x ≡ z = cc in
    let tail : xs ++ ys ≡ front ++ w ∷ rest = cc in
    elim (two_fronts xs ys front w rest tail) [
      | inl q ↦ (let r = q.1 in inl (q.0, cc))
      | inr q ↦ (let r = q.1 in inr (q.0, cc))
    ]

-- ---- one step

step_least : (v : ℤ) (event : ℕ) (op : Op) (back : Option (ℕ × Reply)) (r : Reply) (b : Bool) → IfSome back (λ q. q.1 ≡ r) → counted (took_by v event op back && b) 0 ≤ times v (taken_out_by op r)
step_least v event Dequeue (Some (n, Int w)) r b e = go (int_eq v w) refl (nat_le n event)
  where
    out : times v (taken_out_by Dequeue r) ≡ counted (int_eq v w) 0
    out = ap (λ (q : Reply). times v (taken_out_by Dequeue q)) (sym e)

    go : (a : Bool) → int_eq v w ≡ a → (c : Bool) → counted ((int_eq v w && c) && b) 0 ≤ times v (taken_out_by Dequeue r)
    go false is c = rw is (omega arith)
    go true is c = rw (out, is) (at_most (c && b))
      where
        at_most : (d : Bool) → counted d 0 ≤ 1
        at_most true = omega arith
        at_most false = omega arith
step_least v event Dequeue None r b e = omega arith
step_least v event Dequeue (Some (n, Okay)) r b e = omega arith
step_least v event Dequeue (Some (n, Flag f)) r b e = omega arith
step_least v event Dequeue (Some (n, Empty)) r b e = omega arith
step_least v event op back r b e = omega arith

step_most : (v : ℤ) (op : Op) (back : Option (ℕ × Reply)) (r : Reply) → IfSome back (λ q. q.1 ≡ r) → times v (taken_out_by op r) ≤ counted (may_take v op back) 0
step_most v Dequeue None (Int w) e = at_most (int_eq v w)
  where
    at_most : (d : Bool) → counted d 0 ≤ 1
    at_most true = omega arith
    at_most false = omega arith
step_most v Dequeue None r e = omega arith
step_most v Dequeue (Some (n, Int w)) r e = subst (λ (q : Reply). times v (taken_out_by Dequeue q) ≤ counted (int_eq v w) 0) e (omega arith)
step_most v Dequeue (Some (n, Okay)) r e = subst (λ (q : Reply). times v (taken_out_by Dequeue q) ≤ 0) e (omega arith)
step_most v Dequeue (Some (n, Flag b)) r e = subst (λ (q : Reply). times v (taken_out_by Dequeue q) ≤ 0) e (omega arith)
step_most v Dequeue (Some (n, Empty)) r e = subst (λ (q : Reply). times v (taken_out_by Dequeue q) ≤ 0) e (omega arith)
step_most v op back r e = omega arith

-- ---- what the tests say

pub and_parts : (a b : Bool) → (a && b) ≡ true → (a ≡ true) × (b ≡ true)
and_parts true true e = (refl, refl)
and_parts true false e = absurd (cc)
and_parts false b e = absurd (cc)

put_concerns : (v : ℤ) (op : Op) (back : Option (ℕ × Reply)) → puts_it v op ≡ true → concerns v op back ≡ true
put_concerns v (Enqueue w) back e = e
put_concerns v op back e = absurd (cc)

pub take_concerns : (v : ℤ) (op : Op) (back : Option (ℕ × Reply)) → may_take v op back ≡ true → concerns v op back ≡ true
take_concerns v Dequeue None e = refl
take_concerns v Dequeue (Some (n, Int w)) e = e
take_concerns v Dequeue (Some (n, Okay)) e = absurd (cc)
take_concerns v Dequeue (Some (n, Flag f)) e = absurd (cc)
take_concerns v Dequeue (Some (n, Empty)) e = absurd (cc)
take_concerns v op back e = absurd (cc)

-- a call that returned by the event
abbrev pub ReturnedBy : ℕ → Option (ℕ × Reply) → Type 0
ReturnedBy event back = (n : ℕ) × (r : Reply) × (back ≡ Some (n, r)) × (n ≤ event)

pub no_later : (n event : ℕ) → nat_le n event ≡ true → n ≤ event
no_later n event e = elim (leb_tells n event) [ inl k ↦ k.1 | inr k ↦ absurd (let f = k.0 in cc) ]

later : (n event : ℕ) → nat_le n event ≡ false → event < n
later n event e = elim (leb_tells n event) [ inl k ↦ absurd (let f = k.0 in cc) | inr k ↦ (let f = k.1 in omega (arith, f)) ]

took_tells : (v : ℤ) (event : ℕ) (op : Op) (back : Option (ℕ × Reply)) → took_by v event op back ≡ true → ReturnedBy event back
took_tells v event Dequeue (Some (n, Int w)) e = (n, Int w, refl, no_later n event (and_parts (int_eq v w) (nat_le n event) e).1)
took_tells v event Dequeue None e = absurd (cc)
took_tells v event Dequeue (Some (n, Okay)) e = absurd (cc)
took_tells v event Dequeue (Some (n, Flag f)) e = absurd (cc)
took_tells v event Dequeue (Some (n, Empty)) e = absurd (cc)
took_tells v event op back e = absurd (cc)

-- a call that was called and returned by the event
abbrev pub DoneBy : ℕ → Option (ProblemCall Op Reply) → Type 0
DoneBy event o = (x : ProblemCall Op Reply) × (o ≡ Some x) × ReturnedBy event x.returned × (called_by event o ≡ true)

pub taken_tells : (v : ℤ) (event : ℕ) (o : Option (ProblemCall Op Reply)) → taken_at v event o ≡ true → DoneBy event o
taken_tells v event None e = absurd (cc)
taken_tells v event (Some x) e =
    let k = and_parts (took_by v event x.op x.returned) (nat_le x.called event) e in
    (x, refl, took_tells v event x.op x.returned k.0, k.1)

put_and_called : (v : ℤ) (event : ℕ) (o : Option (ProblemCall Op Reply)) → put_at v o ≡ true → called_by event o ≡ true → put_by v event o ≡ true
put_and_called v event None so by = absurd (cc)
put_and_called v event (Some c) so by = both_true so by

abbrev pub may_at : ℤ → Option (ProblemCall Op Reply) → Bool
may_at v None = false
may_at v (Some x) = may_take v x.op x.returned

module _ (p : Problem ObjState Op Reply) where
  abbrev pub at : ℕ → Option (ProblemCall Op Reply)
  at d = slice_get p.calls d

  put_is_on : (v : ℤ) (d : ℕ) (o : Option (ProblemCall Op Reply)) → at d ≡ o → put_at v o ≡ true → In d (calls_on v 0 p.calls)
  put_is_on v d None e so = absurd (cc)
  put_is_on v d (Some x) e so = subst (λ (n : ℕ). In n (calls_on v 0 p.calls)) (omega arith) (every_on v 0 p.calls d x e (put_concerns v x.op x.returned so))

  pub taker_is_on : (v : ℤ) (event d : ℕ) (o : Option (ProblemCall Op Reply)) → at d ≡ o → may_at v o ≡ true → called_by event o ≡ true → In d (calls_on v 0 p.calls) × (taker_at v event o ≡ true)
  taker_is_on v event d None e so by = absurd (cc)
  taker_is_on v event d (Some x) e so by = (subst (λ (n : ℕ). In n (calls_on v 0 p.calls)) (omega arith) (every_on v 0 p.calls d x e (take_concerns v x.op x.returned so)), both_true so by)

  -- a list of calls up to the first that was called after the event
  pub record Split (event : ℕ) (l : List ℕ) : Type 0 where
    pub front : List ℕ
    pub back : List ℕ
    pub place : l ≡ front ++ back
    pub by : (d : ℕ) → In d front → called_by event (at d) ≡ true
    pub ends : (back ≡ []) ⊎ ((y : ℕ) × (ys : List ℕ) × (back ≡ y ∷ ys) × (called_by event (at y) ≡ false))

  pub split_at : (event : ℕ) (l : List ℕ) → Split event l
  split_at event [] = record { front = []; back = []; place = refl; by = λ d h. absurd h; ends = inl refl }
  split_at event (c ∷ cs) = go (called_by event (at c)) refl (split_at event cs)
    where
      go : (b : Bool) → called_by event (at c) ≡ b → Split event cs → Split event (c ∷ cs)
      go true so k = record {
        front = c ∷ k.front;
        back = k.back;
        place = ap (λ (l : List ℕ). c ∷ l) k.place;
        by = λ d h. elim h [ inl e ↦ subst (λ (n : ℕ). called_by event (at n) ≡ true) (sym e) so | inr more ↦ k.by d more ];
        ends = k.ends;
      }
      go false so k = record { front = []; back = c ∷ cs; place = refl; by = λ d h. absurd h; ends = inr (c, cs, refl, so) }

  pub is_before : (event d y : ℕ) (z : ProblemCall Op Reply) → DoneBy event (at d) → at y ≡ Some z → called_by event (at y) ≡ false → Before p d y
  is_before event d y z (x, there, (n, r, back, soon), called) here late =
      let after_it : event < z.called = later z.called event (ap (λ (o : Option (ProblemCall Op Reply)). called_by event o) (sym here) ∙ late) in
      let less : n < z.called = omega (arith, soon, after_it) in
      rw (there, back, here) less

module _ {p : Problem ObjState Op Reply} {start : List ℤ} (of_queue : IsOfQueue p start) where
  pub joined_puts : (xs ys : List ℕ) → puts of_queue (xs ++ ys) ≡ puts of_queue xs ++ puts of_queue ys
  joined_puts [] ys = refl
  joined_puts (x ∷ xs) ys = ap (λ (l : List ℤ). puts_by of_queue (slice_get p.calls x) ++ l) (joined_puts xs ys) ∙ sym (append_assoc (puts_by of_queue (slice_get p.calls x)) (puts of_queue xs) (puts of_queue ys))

  op_times : (v : ℤ) (op : Op) → times v (put_in_by op) ≡ counted (puts_it v op) 0
  op_times v (Enqueue w) = refl
  op_times v op = refl

  by_times : (v : ℤ) (o : Option (ProblemCall Op Reply)) → times v (puts_by of_queue o) ≡ counted (put_at v o) 0
  by_times v None = refl
  by_times v (Some x) = op_times v x.op

  puts_times : (v : ℤ) (l : List ℕ) → times v (puts of_queue l) ≡ how_many (λ d. put_at v (slice_get p.calls d)) l
  puts_times v [] = refl
  puts_times v (d ∷ l) =
      let a = times_joined v (puts_by of_queue (slice_get p.calls d)) (puts of_queue l) in
      let b = by_times v (slice_get p.calls d) in
      let c = puts_times v l in
      let e = counted_more (put_at v (slice_get p.calls d)) (how_many (λ e. put_at v (slice_get p.calls e)) l) in
      omega (arith, a, b, c, e)

  -- what came out and then what is left is what went in, and how often each item came out
  pub record Outs (items : List ℤ) (l : List ℕ) (t : ObjState) : Type 0 where
    pub took : List ℤ
    pub rest : List ℤ
    pub ends : t ≡ Queue rest
    pub same : items ++ puts of_queue l ≡ took ++ rest
    pub least : (v : ℤ) (event : ℕ) → how_many (λ d. taken_at v event (slice_get p.calls d)) l ≤ times v took
    pub most : (v : ℤ) → times v took ≤ how_many (λ d. may_at v (slice_get p.calls d)) l

  next_out : (c : ℕ) (cs : List ℕ) (items : List ℤ) (t m : ObjState) → next p (Queue items) c ≡ Some m → Legal p m cs t → ((left : List ℤ) → Legal p (Queue left) cs t → Outs left cs t) → Outs items (c ∷ cs) t
  next_out c cs items t m step more go = record {
    took = out ++ rest_of.took;
    rest = rest_of.rest;
    ends = rest_of.ends;
    same = rw (ap (puts_by of_queue) call.1) (chain of_queue items (put_in_by call.0.op) (puts of_queue cs) out rest_of.took rest_of.rest one.rest one.same rest_of.same);
    least = λ v event. (
        let a = times_joined v out rest_of.took in
        let b = rest_of.least v event in
        let s : counted (taken_at v event (slice_get p.calls c)) 0 ≤ times v out = rw call.1 (step_least v event call.0.op call.0.returned k.0 (nat_le call.0.called event) recorded) in
        let e = counted_more (taken_at v event (slice_get p.calls c)) (how_many (λ d. taken_at v event (slice_get p.calls d)) cs) in
        omega (arith, a, b, s, e));
    most = λ v. (
        let a = times_joined v out rest_of.took in
        let b = rest_of.most v in
        let s : times v out ≤ counted (may_at v (slice_get p.calls c)) 0 = rw call.1 (step_most v call.0.op call.0.returned k.0 recorded) in
        let e = counted_more (may_at v (slice_get p.calls c)) (how_many (λ d. may_at v (slice_get p.calls d)) cs) in
        omega (arith, a, b, s, e));
  }
    where
      call : (x : ProblemCall Op Reply) × (slice_get p.calls c ≡ Some x)
      call = has_call of_queue (Queue items) m c step

      k : (r : Reply) × Is (queue_step items call.0.op) m r × (fits p.same_reply r call.0.returned ≡ true)
      k = stepped of_queue items m c call.0 call.1 step

      recorded : IfSome call.0.returned (λ q. q.1 ≡ k.0)
      recorded = fits_recorded of_queue k.0 call.0.returned k.2

      one : QueueStep items call.0.op m k.0
      one = queue_leaves items call.0.op m k.0 k.1

      out : List ℤ
      out = taken_out_by call.0.op k.0

      rest_of : Outs one.rest cs t
      rest_of = go one.rest (subst (λ (s : ObjState). Legal p s cs t) one.ends more)

  pub outs : (l : List ℕ) (items : List ℤ) (t : ObjState) → Legal p (Queue items) l t → Outs items l t
  outs [] items t e = record { took = []; rest = items; ends = sym e; same = append-nil items; least = λ v event. omega arith; most = λ v. omega arith }
  outs (c ∷ cs) items t (m, step, more) = next_out c cs items t m step more (λ left legal. outs cs left t legal)

module _ {p : Problem ObjState Op Reply} (of_queue : IsOfQueue p []) (l : List ℕ) (whole : IsLinearization p l) (event : ℕ) where
  s : Split p event l
  s = split_at p event l

  abbrev end : ObjState
  end = whole.continuation.legal.0

  run : IsRun p l
  run = whole.continuation

  legal : Legal p (Queue []) (s.front ++ s.back) end
  legal = subst (λ (m : List ℕ). Legal p (Queue []) m end) s.place (subst (λ (u : ObjState). Legal p u l end) of_queue.start_is whole.continuation.legal.1)

  parts : (t : ObjState) × Legal p (Queue []) s.front t × Legal p t s.back end
  parts = legal_split of_queue s.front s.back (Queue []) end legal

  o : Outs of_queue [] s.front parts.0
  o = outs of_queue s.front [] parts.0 parts.1

  -- a call that was done by the event does not stand behind one that was called after it
  not_behind : (d y : ℕ) (ys : List ℕ) → DoneBy event (slice_get p.calls d) → s.back ≡ y ∷ ys → called_by event (slice_get p.calls y) ≡ false → In d ys → ⊥
  not_behind d y ys done back late_y h =
      let q = in_place d ys h in
      let goes : Legal p parts.0 (y ∷ ys) end = subst (λ (m : List ℕ). Legal p parts.0 m end) back parts.2 in
      let call = has_call of_queue parts.0 goes.0 y goes.1 in
      let shape : l ≡ (s.front ++ y ∷ q.0) ++ d ∷ q.1 = s.place ∙ ap (λ (m : List ℕ). s.front ++ m) (back ∙ ap (λ (m : List ℕ). y ∷ m) q.2) ∙ sym (append_assoc s.front (y ∷ q.0) (d ∷ q.1)) in
      not_before (s.front ++ y ∷ q.0) d q.1 (subst (λ (m : List ℕ). IsRun p m) shape run) y (is_before p event d y call.0 done call.1 late_y) (in_late y s.front (y ∷ q.0) (inl refl))

  in_front : (d : ℕ) → DoneBy event (slice_get p.calls d) → In d l → In d s.front
  in_front d done h = elim (in_either d s.front s.back (subst (λ (m : List ℕ). In d m) s.place h)) [
    | inl q ↦ q
    | inr q ↦ elim s.ends [
      | inl none ↦ absurd (subst (λ (m : List ℕ). In d m) none q)
      | inr (y, ys, back, late_y) ↦ elim (subst (λ (m : List ℕ). In d m) back q) [
        | inl e ↦ absurd (let f : called_by event (slice_get p.calls y) ≡ true = subst (λ (n : ℕ). called_by event (slice_get p.calls n) ≡ true) e done.3 in cc)
        | inr more ↦ absurd (not_behind d y ys done back late_y more)
      ]
    ]
  ]

  there : (d : ℕ) → DoneBy event (slice_get p.calls d) → In d l
  there d (x, is, (n, r, back, soon), called) =
      let q = stands l d whole (took_completed of_queue d x n r is back) in
      subst (λ (m : List ℕ). In d m) (sym q.2) (in_late d q.0 (d ∷ q.1) (inl refl))

  came_out : (w : ℤ) → taken_by p.calls w event (calls_on w 0 p.calls) ≤ times w o.took
  came_out w =
      let a = no_fewer (λ d. taken_at w event (slice_get p.calls d)) (λ d. taken_at w event (slice_get p.calls d)) (calls_on w 0 p.calls) s.front (on_distinct w 0 p.calls) (λ d i so. (let done = taken_tells w event (slice_get p.calls d) so in (in_front d done (there d done), so))) in
      let c = o.least w event in
      omega (arith, a, c)

  all_called : (v : ℤ) → times v (puts of_queue s.front) ≤ called_puts p.calls v event (calls_on v 0 p.calls)
  all_called v =
      let a = no_fewer (λ d. put_at v (slice_get p.calls d)) (λ d. put_by v event (slice_get p.calls d)) s.front (calls_on v 0 p.calls) (distinct_early s.front s.back (subst IsDistinct s.place whole.continuation.distinct)) (λ d i so. (put_is_on p v d (slice_get p.calls d) refl so, put_and_called v event (slice_get p.calls d) so (s.by d i))) in
      let c = puts_times of_queue v s.front in
      omega (arith, a, c)

  lacks_none : (v : ℤ) → called_puts p.calls v event (calls_on v 0 p.calls) < taken_by p.calls v event (calls_on v 0 p.calls) → ⊥
  lacks_none v less =
      let a = came_out v in
      let c = all_called v in
      let e = ap (times v) o.same in
      let k = times_joined v o.took o.rest in
      omega (arith, a, c, e, k, less)

  may_come_out : (v : ℤ) → times v o.took ≤ takers_by p.calls v event (calls_on v 0 p.calls)
  may_come_out v =
      let a = no_fewer (λ d. may_at v (slice_get p.calls d)) (λ d. taker_at v event (slice_get p.calls d)) s.front (calls_on v 0 p.calls) (distinct_early s.front s.back (subst IsDistinct s.place whole.continuation.distinct)) (λ d i so. taker_is_on p v event d (slice_get p.calls d) refl so (s.by d i)) in
      let c = o.most v in
      omega (arith, a, c)

  module _ (early late : List ℕ) (b : ℕ) (set : List Bool) (place : l ≡ early ++ b ∷ late) (is_early : (c : ℕ) → (has set c ≡ true → In c early) × (In c early → has set c ≡ true)) where
    distinct : IsDistinct (early ++ b ∷ late)
    distinct = subst IsDistinct place whole.continuation.distinct

    went_in : (w : ℤ) → times w (puts of_queue early) ≤ lifted_puts p.calls set w (calls_on w 0 p.calls)
    went_in w =
        let a = no_fewer (λ d. put_at w (slice_get p.calls d)) (λ d. has set d && put_at w (slice_get p.calls d)) early (calls_on w 0 p.calls) (distinct_early early (b ∷ late) distinct) (λ d i so. (put_is_on p w d (slice_get p.calls d) refl so, both_true ((is_early d).1 i) so)) in
        let c = puts_times of_queue w early in
        omega (arith, a, c)

    all_in : (v : ℤ) → lifted_puts p.calls set v (calls_on v 0 p.calls) ≤ times v (puts of_queue early)
    all_in v =
        let a = no_fewer (λ d. has set d && put_at v (slice_get p.calls d)) (λ d. put_at v (slice_get p.calls d)) (calls_on v 0 p.calls) early (on_distinct v 0 p.calls) (λ d i so. (let q = and_parts (has set d) (put_at v (slice_get p.calls d)) so in ((is_early d).0 q.0, q.1))) in
        let c = puts_times of_queue v early in
        omega (arith, a, c)

    order : (v : ℤ) → Puts p b v → o.took ++ (o.rest ++ puts of_queue s.back) ≡ puts of_queue early ++ v ∷ puts of_queue late
    order v put =
        sym (append_assoc o.took o.rest (puts of_queue s.back))
        ∙ ap (λ (m : List ℤ). m ++ puts of_queue s.back) (sym o.same)
        ∙ sym (joined_puts of_queue s.front s.back)
        ∙ ap (puts of_queue) (sym s.place ∙ place)
        ∙ joined_puts of_queue early (b ∷ late)
        ∙ ap (λ (m : List ℤ). puts of_queue early ++ (m ++ puts of_queue late)) (ap (puts_by of_queue) put.1 ∙ ap put_in_by put.2)

    too_early : (v w : ℤ) → Puts p b v → takers_by p.calls v event (calls_on v 0 p.calls) ≤ lifted_puts p.calls set v (calls_on v 0 p.calls) → lifted_puts p.calls set w (calls_on w 0 p.calls) < taken_by p.calls w event (calls_on w 0 p.calls) → ⊥
    too_early v w put few lack = elim (two_fronts o.took (o.rest ++ puts of_queue s.back) (puts of_queue early) v (puts of_queue late) (order v put)) [
      | inl q ↦ (
          let joined = ap (times w) q.1 ∙ times_joined w o.took q.0 in
          let a = came_out w in
          let c = went_in w in
          omega (arith, joined, a, c, lack))
      | inr q ↦ (
          let joined = ap (times v) q.1 ∙ times_joined v (puts of_queue early) (v ∷ q.0) in
          let own = times_own v q.0 in
          let a = may_come_out v in
          let c = all_in v in
          omega (arith, joined, own, a, c, few))
    ]

    -- a call that found the queue empty stands behind the enqueue, so its item is out in front of that
    module _ (v : ℤ) (e : ℕ) (put : Puts p b v) (x : ProblemCall Op Reply) (n : ℕ) (at_e : slice_get p.calls e ≡ Some x) (op : x.op ≡ Dequeue) (back : x.returned ≡ Some (n, Empty)) (soon : n ≤ event) (mid rest : List ℕ) (is : late ≡ mid ++ e ∷ rest) where
      abbrev front : List ℕ
      front = early ++ b ∷ mid

      shape : l ≡ front ++ e ∷ rest
      shape = place ∙ ap (λ (m : List ℕ). early ++ b ∷ m) is ∙ sym (append_assoc early (b ∷ mid) (e ∷ rest))

      two : (t : ObjState) × Legal p (Queue []) front t × Legal p t (e ∷ rest) end
      two = legal_split of_queue front (e ∷ rest) (Queue []) end (subst (λ (m : List ℕ). Legal p (Queue []) m end) shape (subst (λ (u : ObjState). Legal p u l end) of_queue.start_is whole.continuation.legal.1))

      q : Outs of_queue [] front two.0
      q = outs of_queue front [] two.0 two.1

      goes : Legal p (Queue q.rest) (e ∷ rest) end
      goes = subst (λ (u : ObjState). Legal p u (e ∷ rest) end) q.ends two.2

      all_out : puts of_queue front ≡ q.took
      all_out = q.same ∙ ap (λ (m : List ℤ). q.took ++ m) (queue_empty q.rest goes.0 (replied of_queue q.rest goes.0 e x n Empty at_e op back goes.1)).0 ∙ append-nil q.took

      called : (d : ℕ) → In d front → (o : Option (ProblemCall Op Reply)) → slice_get p.calls d ≡ o → may_at v o ≡ true → called_by event o ≡ true
      called d i None here so = absurd (cc)
      called d i (Some y) here so = elim (leb_tells y.called event) [
        | inl k ↦ k.0
        | inr k ↦ absurd (
            let less : n < y.called = (let f = k.1 in omega (arith, soon, f)) in
            let first : Before p e d = rw (at_e, back, here) less in
            not_before front e rest (subst (λ (m : List ℕ). IsRun p m) shape run) d first i)
      ]

      most : times v q.took ≤ takers_by p.calls v event (calls_on v 0 p.calls)
      most =
          let a = no_fewer (λ d. may_at v (slice_get p.calls d)) (λ d. taker_at v event (slice_get p.calls d)) front (calls_on v 0 p.calls) (distinct_early front (e ∷ rest) (subst IsDistinct shape whole.continuation.distinct)) (λ d i so. taker_is_on p v event d (slice_get p.calls d) refl so (called d i (slice_get p.calls d) refl so)) in
          let c = q.most v in
          omega (arith, a, c)

      enough : lifted_puts p.calls set v (calls_on v 0 p.calls) ≤ times v (puts of_queue early)
      enough = all_in v

      own : times v (v ∷ puts of_queue mid) ≡ times v (puts of_queue mid) + 1
      own = times_own v (puts of_queue mid)

      inside : times v q.took ≡ times v (puts of_queue early ++ v ∷ puts of_queue mid)
      inside = ap (times v) (sym all_out ∙ joined_puts of_queue early (b ∷ mid) ∙ ap (λ (m : List ℤ). puts of_queue early ++ (m ++ puts of_queue mid)) (ap (puts_by of_queue) put.1 ∙ ap put_in_by put.2))

      both : times v (puts of_queue early ++ v ∷ puts of_queue mid) ≡ times v (puts of_queue early) + times v (v ∷ puts of_queue mid)
      both = times_joined v (puts of_queue early) (v ∷ puts of_queue mid)

      out_before : takers_by p.calls v event (calls_on v 0 p.calls) ≤ lifted_puts p.calls set v (calls_on v 0 p.calls) → ⊥
      out_before few = omega (arith, few, most, enough, both, own, inside)

    found_there : (e : ℕ) (x : ProblemCall Op Reply) (n : ℕ) → slice_get p.calls e ≡ Some x → x.returned ≡ Some (n, Empty) → In e l
    found_there e x n at_e back = (let q = stands l e whole (took_completed of_queue e x n Empty at_e back) in subst (λ (m : List ℕ). In e m) (sym q.2) (in_late e q.0 (e ∷ q.1) (inl refl)))

    before_empty : (v : ℤ) (e : ℕ) → Puts p b v → FoundEmptyBy p.calls set event e → takers_by p.calls v event (calls_on v 0 p.calls) ≤ lifted_puts p.calls set v (calls_on v 0 p.calls) → ⊥
    before_empty v e put (out, (x, at_e, op, (n, back, soon))) few = elim (in_either e early (b ∷ late) (subst (λ (m : List ℕ). In e m) place (found_there e x n at_e back))) [
      | inl q ↦ absurd (let f = (is_early e).1 q in cc)
      | inr (inl q) ↦ absurd (let f : slice_get p.calls e ≡ Some put.0 = ap (λ (d : ℕ). slice_get p.calls d) q ∙ put.1 in let g = put.2 in cc)
      | inr (inr q) ↦ (let at = in_place e late q in out_before v e put x n at_e op back soon at.0 at.1 at.2 few)
    ]

-- no completion of a reachable configuration begins with such an enqueue
pub early_begins_none : (p : Problem ObjState Op Reply) → IsOfQueue p [] → AreAlike p p → (set : List Bool) (s : ObjState) → IsReachable p set s → (b : ℕ) → ComesTooEarly p set b → BeginsNone p set s b
early_begins_none p of_queue alike set s k b (v, put, (event, few, inl (w, lack))) cs h =
    too_early of_queue (k.run.0 ++ b ∷ cs) (joined p alike set s k (b ∷ cs) h) event k.run.0 cs b set refl k.run.2 v w put few lack
early_begins_none p of_queue alike set s k b (v, put, (event, few, inr (e, empty))) cs h =
    before_empty of_queue (k.run.0 ++ b ∷ cs) (joined p alike set s k (b ∷ cs) h) event k.run.0 cs b set refl k.run.2 v e put empty few

-- where too few enqueues of an item were called there is no linearization
pub lacks_no_order : (p : Problem ObjState Op Reply) → IsOfQueue p [] → LacksEnqueues p.calls → (l : List ℕ) → IsLinearization p l → ⊥
lacks_no_order p of_queue (v, (event, less)) l whole = lacks_none of_queue l whole event v less
