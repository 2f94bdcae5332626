-- What the order of dequeues tells of the order of enqueues, and that no two of them take an item that goes in once.
use Rattle.std.proofs.Common.{◌≡◌, ◌≢◌, ℕ, true, Option, Some, None, List, [], ◌∷◌, ◌++◌, length, ◌⊎◌, inl, inr, refl, sym, ◌∙◌, ap, subst, append_assoc, append-nil}
use Rattle.std.specs.Prelude.{ℤ, slice_get, IfSome}
use Rattle.lin_object.specs.declared.op.Op.{Op}
use Rattle.lin_object.specs.declared.op.Op.TheVariants.{Enqueue, Dequeue}
use Rattle.lin_object.specs.declared.reply.Reply.{Reply}
use Rattle.lin_object.specs.declared.reply.Reply.TheVariants.{Int, Empty}
use Rattle.lin_object.specs.declared.state.ObjState.{ObjState}
use Rattle.lin_object.specs.declared.state.ObjState.TheVariants.{Queue}
use Rattle.lin_object.specs.Kinds.Queue.{queue_step, put_in_by, taken_out_by}
use Rattle.lin_history.specs.declared.problems.problem.ProblemCall.{ProblemCall}
use Rattle.lin_history.specs.Problems.Problem.{Problem}
use Rattle.lin_history.specs.Problems.Lists.{In, IsDistinct}
use Rattle.lin_history.specs.Problems.ListLemmas.{distinct_early, has_none, in_early, in_late, in_either, in_place, apart}
use Rattle.lin_history.specs.Problems.LegalLists.{fits, state_if_fits, next, Legal}
use Rattle.lin_history.specs.Problems.Precedence.{Before, IsCompleted}
use Rattle.lin_history.specs.Problems.Linearizations.{IsRun, IsLinearization}
use Rattle.lin_history.specs.Problems.Needs.{Needs}
use Rattle.lin_ahead.specs.Queues.Queue.{Item, IsOfQueue, FoundEmpty, MayTake, OnlyPuts, IsTakenAfter}
use Rattle.lin_laws.specs.Items.{Puts, Took}
use Rattle.lin_ahead.specs.Items.Owed.{IsOwed}
use Rattle.lin_ahead.specs.Queues.ToldOfQueue.{PutOnce}
use Rattle.lin_laws.specs.AnswerLemmas.{Is, state_of, reply_of, fits_some}
use Rattle.lin_ahead.proofs.first.NeedsLemmas.{not_before, place_split, stands}

-- ---- items

pub Item_early : (v : ℤ) (xs ys : List ℤ) → Item v xs → Item v (xs ++ ys)
Item_early v [] ys h = absurd h
Item_early v (x ∷ xs) ys h = elim h [ inl e ↦ inl e | inr more ↦ inr (Item_early v xs ys more) ]

pub Item_late : (v : ℤ) (xs ys : List ℤ) → Item v ys → Item v (xs ++ ys)
Item_late v [] ys h = h
Item_late v (x ∷ xs) ys h = inr (Item_late v xs ys h)

pub Item_either : (v : ℤ) (xs ys : List ℤ) → Item v (xs ++ ys) → Item v xs ⊎ Item v ys
Item_either v [] ys h = inr h
Item_either v (x ∷ xs) ys h = elim h [ inl e ↦ inl (inl e) | inr more ↦ elim (Item_either v xs ys more) [ inl k ↦ inl (inr k) | inr k ↦ inr k ] ]

-- an item of a list stands somewhere in it
pub Item_place : (v : ℤ) (xs : List ℤ) → Item v xs → (front : List ℤ) × (rest : List ℤ) × (xs ≡ front ++ v ∷ rest)
Item_place v [] h = absurd h
Item_place v (x ∷ xs) h = elim h [
  | inl e ↦ ([], xs, ap (λ (y : ℤ). y ∷ xs) (sym e))
  | inr more ↦ (let r = Item_place v xs more in (x ∷ r.0, r.1, ap (λ (l : List ℤ). x ∷ l) r.2))
]

-- a place in items of two parts: in the first, or in the second
pub item_split : (xs ys front : List ℤ) (w : ℤ) (rest : List ℤ) → xs ++ ys ≡ front ++ w ∷ rest → Item w xs ⊎ ((more : List ℤ) × (front ≡ xs ++ more) × (ys ≡ more ++ w ∷ rest))
item_split [] ys front w rest e = inr (front, refl, e)
item_split (x ∷ xs) ys [] w rest e = inl (inl (let h : x ≡ w = cc in sym h))
item_split (x ∷ xs) ys (z ∷ front) w rest e =
    let h : x ≡ z = cc in
    let tail : xs ++ ys ≡ front ++ w ∷ rest = cc in
    elim (item_split xs ys front w rest tail) [
      | inl q ↦ inl (inr q)
      | inr q ↦ (let r = q.1 in inr (q.0, cc, q.2))
    ]

-- the items with one more are what came out and one that is left: that one is the one more, or it came out
one_more_or_out : (xs : List ℤ) (v w : ℤ) (ys took more rest : List ℤ) → took ≡ xs ++ more → v ∷ ys ≡ more ++ w ∷ rest → (v ≡ w) ⊎ Item v took
one_more_or_out xs v w ys took [] rest e f = inl (cc)
one_more_or_out xs v w ys took (u ∷ more) rest e f = inr (subst (λ (l : List ℤ). Item v l) (sym e) (Item_late v xs (u ∷ more) (inl (cc))))

-- ---- calls

-- two places in one list: a before b, or b before a
either_first : (xs : List ℕ) (a : ℕ) (ys front : List ℕ) (b : ℕ) (rest : List ℕ) → xs ++ a ∷ ys ≡ front ++ b ∷ rest → a ≢ b → In a front ⊎ In b xs
either_first [] a ys [] b rest e ne = absurd (ne (cc))
either_first [] a ys (z ∷ front) b rest e ne = inl (inl (cc))
either_first (x ∷ xs) a ys [] b rest e ne = inr (inl (let h : x ≡ b = cc in sym h))
either_first (x ∷ xs) a ys (z ∷ front) b rest e ne =
    let tail : xs ++ a ∷ ys ≡ front ++ b ∷ rest = cc in
    elim (either_first xs a ys front b rest tail ne) [ inl q ↦ inl (inr q) | inr q ↦ inr (inr q) ]

-- ---- one step of a queue

-- what one step leaves in the queue, and what it took
pub record QueueStep (items : List ℤ) (op : Op) (m : ObjState) (r : Reply) : Type 0 where
  pub rest : List ℤ
  pub ends : m ≡ Queue rest
  pub same : items ++ put_in_by op ≡ taken_out_by op r ++ rest
  pub took : (v : ℤ) → Item v (taken_out_by op r) → (op ≡ Dequeue) × (r ≡ Int v)

pub queue_leaves : (items : List ℤ) (op : Op) (m : ObjState) (r : Reply) → Is (queue_step items op) m r → QueueStep items op m r
queue_leaves items (Enqueue w) m r e = record { rest = items ++ w ∷ []; ends = sym (state_of e); same = refl; took = λ v h. absurd h }
queue_leaves [] Dequeue m r e = record {
  rest = [];
  ends = sym (state_of e);
  same = rw (← reply_of e) refl;
  took = λ v h. absurd (subst (λ (q : Reply). Item v (taken_out_by Dequeue q)) (sym (reply_of e)) h);
}
queue_leaves (u ∷ items) Dequeue m r e = record {
  rest = items;
  ends = sym (state_of e);
  same = rw (← reply_of e) (append-nil (u ∷ items));
  took = λ v h. (refl, elim (subst (λ (q : Reply). Item v (taken_out_by Dequeue q)) (sym (reply_of e)) h) [ inl k ↦ sym (reply_of e) ∙ ap Int (sym k) | inr k ↦ absurd k ]);
}
queue_leaves items op m r e = absurd (cc)

-- what a dequeue tells of the queue by its reply
pub queue_answered : (items : List ℤ) (m : ObjState) (w : ℤ) → Is (queue_step items Dequeue) m (Int w) → (rest : List ℤ) × (items ≡ w ∷ rest) × (m ≡ Queue rest)
queue_answered [] m w e = absurd (let f = reply_of e in cc)
queue_answered (u ∷ items) m w e = (items, (let f = reply_of e in let g : u ≡ w = cc in ap (λ (y : ℤ). y ∷ items) g), sym (state_of e))

pub queue_empty : (items : List ℤ) (m : ObjState) → Is (queue_step items Dequeue) m Empty → (items ≡ []) × (m ≡ Queue [])
queue_empty [] m e = (refl, sym (state_of e))
queue_empty (u ∷ items) m e = absurd (let f = reply_of e in cc)

-- only a dequeue answers with an item
pub only_dequeues : (items : List ℤ) (op : Op) (m : ObjState) (v : ℤ) → Is (queue_step items op) m (Int v) → op ≡ Dequeue
only_dequeues items (Enqueue w) m v e = absurd (let f = reply_of e in cc)
only_dequeues items Dequeue m v e = refl
only_dequeues items op m v e = absurd (cc)

module _ {p : Problem ObjState Op Reply} {start : List ℤ} (of_queue : IsOfQueue p start) where
  -- a step of a call at a queue
  pub stepped : (items : List ℤ) (m : ObjState) (c : ℕ) (x : ProblemCall Op Reply) → slice_get p.calls c ≡ Some x → next p (Queue items) c ≡ Some m → (r : Reply) × Is (queue_step items x.op) m r × (fits p.same_reply r x.returned ≡ true)
  stepped items m c x e step =
      let step' : state_if_fits p.same_reply x.returned (p.after (Queue items) x.process x.op) ≡ Some m = rw e at step in
      let k = fits_some p.same_reply (p.after (Queue items) x.process x.op) x.returned m step' in
      (k.0, sym (of_queue.after_is (Queue items) x.process x.op) ∙ k.1, k.2)

  pub has_call : (s m : ObjState) (c : ℕ) → next p s c ≡ Some m → (x : ProblemCall Op Reply) × (slice_get p.calls c ≡ Some x)
  has_call s m c step = go (slice_get p.calls c) refl
    where
      go : (o : Option (ProblemCall Op Reply)) → slice_get p.calls c ≡ o → (x : ProblemCall Op Reply) × (slice_get p.calls c ≡ Some x)
      go (Some x) e = (x, e)
      go None e = absurd (let f = rw e at step in cc)

  pub fits_recorded : (r : Reply) (recorded : Option (ℕ × Reply)) → fits p.same_reply r recorded ≡ true → IfSome recorded (λ q. q.1 ≡ r)
  fits_recorded r None e = tt
  fits_recorded r (Some q) e = sym (of_queue.exact r q.1 e)

  -- ---- a run of calls

  abbrev pub puts_by : Option (ProblemCall Op Reply) → List ℤ
  puts_by None = []
  puts_by (Some x) = put_in_by x.op

  abbrev pub puts : List ℕ → List ℤ
  puts [] = []
  puts (c ∷ cs) = puts_by (slice_get p.calls c) ++ puts cs

  -- what came out and then what is left is what went in; and what came out was taken by some call
  pub record Fifo (items : List ℤ) (l : List ℕ) (t : ObjState) : Type 0 where
    pub took : List ℤ
    pub rest : List ℤ
    pub ends : t ≡ Queue rest
    pub same : items ++ puts l ≡ took ++ rest
    pub taker : (v : ℤ) → Item v took → (j : ℕ) × In j l × MayTake p j v

  pub chain : (items put puts taken takens rest more : List ℤ) → items ++ put ≡ taken ++ more → more ++ puts ≡ takens ++ rest → items ++ (put ++ puts) ≡ (taken ++ takens) ++ rest
  chain items put puts taken takens rest more one later =
      sym (append_assoc items put puts) ∙ ap (λ (l : List ℤ). l ++ puts) one ∙ append_assoc taken more puts ∙ ap (λ (l : List ℤ). taken ++ l) later ∙ sym (append_assoc taken takens rest)

  fifo : (l : List ℕ) (items : List ℤ) (t : ObjState) → Legal p (Queue items) l t → Fifo items l t
  fifo [] items t e = record { took = []; rest = items; ends = sym e; same = append-nil items; taker = λ v h. absurd h }
  fifo (c ∷ cs) items t (m, step, more) =
      let call = has_call (Queue items) m c step in
      let k = stepped items m c call.0 call.1 step in
      let one : QueueStep items call.0.op m k.0 = queue_leaves items call.0.op m k.0 k.1 in
      let later = fifo cs one.rest t (subst (λ (s : ObjState). Legal p s cs t) one.ends more) in
      let put : puts_by (slice_get p.calls c) ≡ put_in_by call.0.op = ap puts_by call.1 in
      record {
        took = taken_out_by call.0.op k.0 ++ later.took;
        rest = later.rest;
        ends = later.ends;
        same = rw put (chain items (put_in_by call.0.op) (puts cs) (taken_out_by call.0.op k.0) later.took later.rest one.rest one.same later.same);
        taker = λ v h. elim (Item_either v (taken_out_by call.0.op k.0) later.took h) [
          | inl q ↦ (let w = one.took v q in (c, inl refl, (call.0, call.1, w.0, subst (λ (r : Reply). IfSome call.0.returned (λ q. q.1 ≡ r)) w.1 (fits_recorded k.0 call.0.returned k.2))))
          | inr q ↦ (let w = later.taker v q in (w.0, inr w.1, w.2))
        ];
      }

  -- ---- where an item went in

  op_puts : (op : Op) → (put_in_by op ≡ []) ⊎ ((u : ℤ) × (op ≡ Enqueue u) × (put_in_by op ≡ u ∷ []))
  op_puts (Enqueue u) = inr (u, refl, refl)
  op_puts op = inl refl

  call_puts : (c : ℕ) → (puts_by (slice_get p.calls c) ≡ []) ⊎ ((u : ℤ) × Puts p c u × (puts_by (slice_get p.calls c) ≡ u ∷ []))
  call_puts c = go (slice_get p.calls c) refl
    where
      go : (o : Option (ProblemCall Op Reply)) → slice_get p.calls c ≡ o → (puts_by (slice_get p.calls c) ≡ []) ⊎ ((u : ℤ) × Puts p c u × (puts_by (slice_get p.calls c) ≡ u ∷ []))
      go None e = inl (rw e refl)
      go (Some x) e = elim (op_puts x.op) [
        | inl q ↦ inl (ap puts_by e ∙ q)
        | inr q ↦ inr (q.0, (x, e, q.1), ap puts_by e ∙ q.2)
      ]

  pub record PutAt (l : List ℕ) (front : List ℤ) (w : ℤ) (rest : List ℤ) : Type 0 where
    pub early : List ℕ
    pub call : ℕ
    pub late : List ℕ
    pub place : l ≡ early ++ call ∷ late
    pub put : Puts p call w
    pub before : puts early ≡ front
    pub after_ : puts late ≡ rest

  put_later : (c : ℕ) (cs : List ℕ) (w : ℤ) (new front rest : List ℤ) → puts_by (slice_get p.calls c) ≡ new → PutAt cs front w rest → PutAt (c ∷ cs) (new ++ front) w rest
  put_later c cs w new front rest e k = record {
    early = c ∷ k.early;
    call = k.call;
    late = k.late;
    place = ap (λ (l : List ℕ). c ∷ l) k.place;
    put = k.put;
    before = rw (e, k.before) refl;
    after_ = k.after_;
  }

  pub put_place : (l : List ℕ) (front : List ℤ) (w : ℤ) (rest : List ℤ) → puts l ≡ front ++ w ∷ rest → PutAt l front w rest
  put_place [] [] w rest e = absurd (cc)
  put_place [] (z ∷ front) w rest e = absurd (cc)
  put_place (c ∷ cs) front w rest e = elim (call_puts c) [
    | inl q ↦ put_later c cs w [] front rest q (put_place cs front w rest (ap (λ (l : List ℤ). l ++ puts cs) (sym q) ∙ e))
    | inr q ↦ here (λ front f. put_place cs front w rest f) q.0 q.1 q.2 front (ap (λ (l : List ℤ). l ++ puts cs) (sym q.2) ∙ e)
  ]
    where
      here : ((front : List ℤ) → puts cs ≡ front ++ w ∷ rest → PutAt cs front w rest) → (u : ℤ) → Puts p c u → puts_by (slice_get p.calls c) ≡ u ∷ [] → (front : List ℤ) → u ∷ puts cs ≡ front ++ w ∷ rest → PutAt (c ∷ cs) front w rest
      here go u put by [] f = record {
        early = [];
        call = c;
        late = cs;
        place = refl;
        put = (let g : u ≡ w = cc in subst (λ (y : ℤ). Puts p c y) g put);
        before = refl;
        after_ = (cc);
      }
      here go u put by (z ∷ front) f =
          let g : u ≡ z = cc in
          let tail : puts cs ≡ front ++ w ∷ rest = cc in
          put_later c cs w (z ∷ []) front rest (by ∙ ap (λ (y : ℤ). y ∷ []) g) (go front tail)

  putter : (l : List ℕ) (v : ℤ) → Item v (puts l) → (c : ℕ) × In c l × Puts p c v
  putter l v h =
      let at = Item_place v (puts l) h in
      let k = put_place l at.0 v at.1 at.2 in
      (k.call, subst (λ (m : List ℕ). In k.call m) (sym k.place) (in_late k.call k.early (k.call ∷ k.late) (inl refl)), k.put)

  put_by : (c : ℕ) (v : ℤ) → Puts p c v → puts_by (slice_get p.calls c) ≡ v ∷ []
  put_by c v k = ap puts_by k.1 ∙ ap put_in_by k.2

  pub put_there : (l : List ℕ) (c : ℕ) (v : ℤ) → Puts p c v → In c l → Item v (puts l)
  put_there [] c v k h = absurd h
  put_there (d ∷ l) c v k h = elim h [
    | inl e ↦ Item_early v (puts_by (slice_get p.calls d)) (puts l) (subst (λ (xs : List ℤ). Item v xs) (sym (put_by d v (subst (λ (n : ℕ). Puts p n v) e k))) (inl refl))
    | inr more ↦ Item_late v (puts_by (slice_get p.calls d)) (puts l) (put_there l c v k more)
  ]

  puts_joined : (xs ys : List ℕ) → puts (xs ++ ys) ≡ puts xs ++ puts ys
  puts_joined [] ys = refl
  puts_joined (x ∷ xs) ys = ap (λ (l : List ℤ). puts_by (slice_get p.calls x) ++ l) (puts_joined xs ys) ∙ sym (append_assoc (puts_by (slice_get p.calls x)) (puts xs) (puts ys))

  distinct_late : (xs ys : List ℕ) → IsDistinct (xs ++ ys) → IsDistinct ys
  distinct_late [] ys d = d
  distinct_late (x ∷ xs) ys d = distinct_late xs ys d.1

  -- an item that goes in once is not both among what came out and among what is left
  once : (k : List ℕ) (b : ℕ) (v : ℤ) (front rest : List ℤ) → IsDistinct k → OnlyPuts p b v → (Item v start → ⊥) → start ++ puts k ≡ front ++ rest → Item v front → Item v rest → ⊥
  once k b v front rest distinct only fresh e h i =
      let at = Item_place v front h in
      let shifted : start ++ puts k ≡ at.0 ++ v ∷ (at.1 ++ rest) = e ∙ ap (λ (l : List ℤ). l ++ rest) at.2 ∙ append_assoc at.0 (v ∷ at.1) rest in
      elim (item_split start (puts k) at.0 v (at.1 ++ rest) shifted) [
        | inl q ↦ fresh q
        | inr q ↦ (
            let w = put_place k q.0 v (at.1 ++ rest) q.2 in
            let other = putter w.late v (subst (λ (l : List ℤ). Item v l) (sym w.after_) (Item_late v at.1 rest i)) in
            let same : other.0 ≡ w.call = only other.0 other.2 ∙ sym (only w.call w.put) in
            (distinct_late w.early (w.call ∷ w.late) (subst IsDistinct w.place distinct)).0 (subst (λ (n : ℕ). In n w.late) same other.1)
            )
      ]

  -- ---- a moment of a linearization

  pub legal_split : (xs ys : List ℕ) (s u : ObjState) → Legal p s (xs ++ ys) u → (t : ObjState) × Legal p s xs t × Legal p t ys u
  legal_split [] ys s u k = (s, refl, k)
  legal_split (x ∷ xs) ys s u k = let r = legal_split xs ys k.0 u k.2 in (r.0, (k.0, k.1, r.1), r.2)

  -- what returned before a call was called does not stand after it, or is it
  not_itself : (early : List ℕ) (i : ℕ) (late : List ℕ) → IsRun p (early ++ i ∷ late) → Before p i i → ⊥
  not_itself early i late run before = elim (run.ordered early i late refl i before) [
    | inl q ↦ (let x = has_none (length p.calls) i in cc)
    | inr q ↦ apart i early (i ∷ late) run.distinct q (inl refl)
  ]

  pub took_completed : (i : ℕ) (x : ProblemCall Op Reply) (n : ℕ) (r : Reply) → slice_get p.calls i ≡ Some x → x.returned ≡ Some (n, r) → IsCompleted p i
  took_completed i x n r e f = rw (e, f) refl

  pub replied : (items : List ℤ) (m : ObjState) (i : ℕ) (x : ProblemCall Op Reply) (n : ℕ) (r : Reply) → slice_get p.calls i ≡ Some x → x.op ≡ Dequeue → x.returned ≡ Some (n, r) → next p (Queue items) i ≡ Some m → Is (queue_step items Dequeue) m r
  replied items m i x n r e op f step =
      let k = stepped items m i x e step in
      let fit : p.same_reply k.0 r ≡ true = subst (λ (o : Option (ℕ × Reply)). fits p.same_reply k.0 o ≡ true) f k.2 in
      let same : k.0 ≡ r = of_queue.exact k.0 r fit in
      subst (λ (q : Reply). Is (queue_step items Dequeue) m q) same (subst (λ (o : Op). Is (queue_step items o) m k.0) op k.1)

  -- the calls before one of a linearization, as a run of the queue, and its step after them
  pub record Moment (early : List ℕ) (i : ℕ) (late : List ℕ) : Type 0 where
    pub mid : ObjState
    pub end : ObjState
    pub so_far : Fifo start early mid
    pub goes_on : Legal p (Queue so_far.rest) (i ∷ late) end

  pub moment : (early : List ℕ) (i : ℕ) (late : List ℕ) → IsRun p (early ++ i ∷ late) → Moment early i late
  moment early i late run =
      let legal : Legal p (Queue start) (early ++ i ∷ late) run.legal.0 = subst (λ (s : ObjState). Legal p s (early ++ i ∷ late) run.legal.0) of_queue.start_is run.legal.1 in
      let k = legal_split early (i ∷ late) (Queue start) run.legal.0 legal in
      let f = fifo early start k.0 k.1 in
      record { mid = k.0; end = run.legal.0; so_far = f; goes_on = subst (λ (s : ObjState). Legal p s (i ∷ late) run.legal.0) f.ends k.2 }

  -- an item that goes in once and came out before a call is not taken behind it
  pub not_taken_behind : (early : List ℕ) (i : ℕ) (late : List ℕ) → IsRun p (early ++ i ∷ late) → (k : Moment early i late) → (b : ℕ) (v : ℤ) → OnlyPuts p b v → (Item v start → ⊥) → Item v k.so_far.took → (j : ℕ) → Took p j v → In j late → ⊥
  not_taken_behind early i late run k b v only fresh h j took there =
      let at = in_place j late there in
      let goes : Legal p (Queue k.so_far.rest) ((i ∷ at.0) ++ j ∷ at.1) k.end = subst (λ (l : List ℕ). Legal p (Queue k.so_far.rest) (i ∷ l) k.end) at.2 k.goes_on in
      let two = legal_split (i ∷ at.0) (j ∷ at.1) (Queue k.so_far.rest) k.end goes in
      let more = fifo (i ∷ at.0) k.so_far.rest two.0 two.1 in
      let last : Legal p (Queue more.rest) (j ∷ at.1) k.end = subst (λ (s : ObjState). Legal p s (j ∷ at.1) k.end) more.ends two.2 in
      let answer = replied more.rest last.0 j took.0 took.3.0 (Int v) took.1 took.2 took.3.1 last.1 in
      let front = queue_answered more.rest last.0 v answer in
      let left : Item v (k.so_far.rest ++ puts (i ∷ at.0)) = subst (λ (l : List ℤ). Item v l) (sym more.same) (Item_late v more.took more.rest (subst (λ (l : List ℤ). Item v l) (sym front.1) (inl refl))) in
      let all : start ++ puts (early ++ i ∷ at.0) ≡ k.so_far.took ++ (k.so_far.rest ++ puts (i ∷ at.0)) =
      ap (λ (l : List ℤ). start ++ l) (puts_joined early (i ∷ at.0))
      ∙ sym (append_assoc start (puts early) (puts (i ∷ at.0)))
      ∙ ap (λ (l : List ℤ). l ++ puts (i ∷ at.0)) k.so_far.same
      ∙ append_assoc k.so_far.took k.so_far.rest (puts (i ∷ at.0)) in
      let shape : early ++ i ∷ late ≡ (early ++ i ∷ at.0) ++ j ∷ at.1 = ap (λ (l : List ℕ). early ++ i ∷ l) at.2 ∙ sym (append_assoc early (i ∷ at.0) (j ∷ at.1)) in
      let distinct : IsDistinct (early ++ i ∷ at.0) = distinct_early (early ++ i ∷ at.0) (j ∷ at.1) (subst IsDistinct shape run.distinct) in
      once (early ++ i ∷ at.0) b v k.so_far.took (k.so_far.rest ++ puts (i ∷ at.0)) distinct only fresh all h left

  -- an item that is not taken before a call is not among what came out before it
  none_taken : (early : List ℕ) (i : ℕ) (late : List ℕ) → IsLinearization p (early ++ i ∷ late) → (k : Moment early i late) → (b : ℕ) (v : ℤ) → IsTakenAfter p start i b v → Item v k.so_far.took → ⊥
  none_taken early i late whole k b v after_it h = elim after_it [
    | inl all ↦ (let t = k.so_far.taker v h in not_before early i late run t.0 (all t.0 t.2) t.1)
    | inr one ↦ not_taken_behind early i late run k b v one.0 one.1 h one.2.0 one.2.1 (place one.2.0 one.2.1 one.2.2)
  ]
    where
      run : IsRun p (early ++ i ∷ late)
      run = whole.continuation

      place : (j : ℕ) → Took p j v → Before p i j → In j late
      place j took before = elim (whole.complete j (took_completed j took.0 took.3.0 (Int v) took.1 took.3.1)) [
        | inl q ↦ absurd (let x = has_none (length p.calls) j in cc)
        | inr q ↦ elim (in_either j early (i ∷ late) q) [
          | inl r ↦ absurd (not_before early i late run j before r)
          | inr (inl r) ↦ absurd (not_itself early i late run (subst (λ (n : ℕ). Before p i n) r before))
          | inr (inr r) ↦ r
        ]
      ]

  -- what was taken before another item could be went in before it
  pub queue_needs_item : (a b i : ℕ) (v w : ℤ) → a ≢ b → OnlyPuts p a w → (Item w start → ⊥) → Took p i w → Puts p b v → IsTakenAfter p start i b v → Needs p a b
  queue_needs_item a b i v w other only fresh took put after_it l whole early late eq =
      let at = stands l i whole (took_completed i took.0 took.3.0 (Int w) took.1 took.3.1) in
      let whole' : IsLinearization p (at.0 ++ i ∷ at.1) = subst (λ (m : List ℕ). IsLinearization p m) at.2 whole in
      let k = moment at.0 i at.1 whole'.continuation in
      let answer = replied k.so_far.rest k.goes_on.0 i took.0 took.3.0 (Int w) took.1 took.2 took.3.1 k.goes_on.1 in
      let front = queue_answered k.so_far.rest k.goes_on.0 w answer in
      elim (item_split start (puts at.0) k.so_far.took w front.0 (k.so_far.same ∙ ap (λ (m : List ℤ). k.so_far.took ++ m) front.1)) [
        | inl q ↦ absurd (fresh q)
        | inr q ↦ (
            let x = put_place at.0 q.0 w front.0 q.2 in
            let same : x.call ≡ a = only x.call x.put in
            let shape : l ≡ x.early ++ a ∷ (x.late ++ i ∷ at.1) =
            at.2
            ∙ ap (λ (m : List ℕ). m ++ i ∷ at.1) x.place
            ∙ append_assoc x.early (x.call ∷ x.late) (i ∷ at.1)
            ∙ ap (λ (n : ℕ). x.early ++ n ∷ (x.late ++ i ∷ at.1)) same in
            elim (either_first x.early a (x.late ++ i ∷ at.1) early b late (sym shape ∙ eq) other) [
              | inl r ↦ r
              | inr r ↦ absurd (
                  let gone : Item v q.0 = subst (λ (m : List ℤ). Item v m) x.before (put_there x.early b v put r) in
                  none_taken at.0 i at.1 whole' k b v after_it (subst (λ (m : List ℤ). Item v m) (sym q.1) (Item_late v start q.0 gone)))
            ]
            )
      ]

  pub not_both : (c d : ℕ) (v : ℤ) → FoundEmpty p c → Puts p d v → c ≢ d
  not_both c d v found put e =
      let f : slice_get p.calls d ≡ Some found.0 = subst (λ (n : ℕ). slice_get p.calls n ≡ Some found.0) e found.1 in
      let g : found.0 ≡ put.0 = (let h = put.1 in cc) in
      let o : Dequeue ≡ Enqueue v = sym found.2 ∙ ap (λ (x : ProblemCall Op Reply). x.op) g ∙ put.2 in
      cc

  -- what was taken only after the queue was found empty went in after that
  pub queue_needs_empty : (a b : ℕ) (v : ℤ) → FoundEmpty p a → Puts p b v → IsTakenAfter p start a b v → Needs p a b
  queue_needs_empty a b v found put after_it l whole early late eq =
      let at = stands l a whole (took_completed a found.0 found.3.0 Empty found.1 found.3.1) in
      let whole' : IsLinearization p (at.0 ++ a ∷ at.1) = subst (λ (m : List ℕ). IsLinearization p m) at.2 whole in
      let k = moment at.0 a at.1 whole'.continuation in
      let answer = replied k.so_far.rest k.goes_on.0 a found.0 found.3.0 Empty found.1 found.2 found.3.1 k.goes_on.1 in
      let none = queue_empty k.so_far.rest k.goes_on.0 answer in
      elim (either_first at.0 a at.1 early b late (sym at.2 ∙ eq) (not_both a b v found put)) [
        | inl r ↦ r
        | inr r ↦ absurd (
            let all : start ++ puts at.0 ≡ k.so_far.took = k.so_far.same ∙ ap (λ (m : List ℤ). k.so_far.took ++ m) none.0 ∙ append-nil k.so_far.took in
            none_taken at.0 a at.1 whole' k b v after_it (subst (λ (m : List ℤ). Item v m) all (Item_late v start (puts at.0) (put_there at.0 b v put r))))
      ]

  -- ---- an item that goes in once does not come out twice

  puts_none : (c : ℕ) (x : ProblemCall Op Reply) → slice_get p.calls c ≡ Some x → x.op ≡ Dequeue → puts_by (slice_get p.calls c) ≡ []
  puts_none c x there op = ap puts_by there ∙ ap put_in_by op

  legal_one : (l : List ℕ) (s t u : ObjState) → Legal p s l t → Legal p s l u → t ≡ u
  legal_one [] s t u a b = sym a ∙ b
  legal_one (c ∷ cs) s t u a b = legal_one cs a.0 t u a.2 (subst (λ (m : ObjState). Legal p m cs u) (let f = a.1 in let g = b.1 in cc) b.2)

  -- what comes after a run goes on from the state that the run ends in
  goes_on_from : (early late : List ℕ) (s u : ObjState) → Legal p p.start (early ++ late) u → Legal p p.start early s → Legal p s late u
  goes_on_from early late s u whole so_far =
      let k = legal_split early late p.start u whole in
      subst (λ (m : ObjState). Legal p m late u) (legal_one early p.start k.0 s k.1 so_far) k.2

  from_start : (l : List ℕ) (s : ObjState) → Legal p p.start l s → Legal p (Queue start) l s
  from_start l s k = subst (λ (u : ObjState). Legal p u l s) of_queue.start_is k

  -- not before a call that takes it, and once more after that
  twice : (xs : List ℕ) (a : ℕ) (ys : List ℕ) (m t : ObjState) (v : ℤ) (left : List ℤ) → IsDistinct (xs ++ a ∷ ys) → PutOnce p v → (Item v start → ⊥) → puts_by (slice_get p.calls a) ≡ [] → (f : Fifo start xs m) → f.rest ≡ v ∷ left → (g : Fifo left ys t) → Item v g.rest → ⊥
  twice xs a ys m t v left distinct unique fresh none f first g last =
      elim (Item_either v start (puts (xs ++ a ∷ ys)) (subst (λ (l : List ℤ). Item v l) (sym all) (Item_early v (f.took ++ v ∷ []) (g.took ++ g.rest) there))) [
        | inl q ↦ fresh q
        | inr q ↦ (
            let b = putter (xs ++ a ∷ ys) v q in
            once (xs ++ a ∷ ys) b.0 v (f.took ++ v ∷ []) (g.took ++ g.rest) distinct (λ d put. unique d b.0 put b.2) fresh all there (Item_late v g.took g.rest last))
      ]
    where
      there : Item v (f.took ++ v ∷ [])
      there = Item_late v f.took (v ∷ []) (inl refl)

      all : start ++ puts (xs ++ a ∷ ys) ≡ (f.took ++ v ∷ []) ++ (g.took ++ g.rest)
      all =
          ap (λ (l : List ℤ). start ++ l) (puts_joined xs (a ∷ ys))
          ∙ sym (append_assoc start (puts xs) (puts (a ∷ ys)))
          ∙ ap (λ (l : List ℤ). l ++ puts (a ∷ ys)) (f.same ∙ ap (λ (l : List ℤ). f.took ++ l) first)
          ∙ ap (λ (l : List ℤ). (f.took ++ v ∷ left) ++ (l ++ puts ys)) none
          ∙ ap (λ (l : List ℤ). l ++ puts ys) (sym (append_assoc f.took (v ∷ []) left))
          ∙ append_assoc (f.took ++ v ∷ []) left (puts ys)
          ∙ ap (λ (l : List ℤ). (f.took ++ v ∷ []) ++ l) g.same

  -- a pending call can't take it where another call returned with it
  pub owed_item : (v : ℤ) (j : ℕ) → PutOnce p v → (Item v start → ⊥) → Took p j v → IsOwed p (Int v)
  owed_item v j unique fresh took l early late c s q whole eq legal answer same =
      elim (place_split early (c ∷ late) at.0 j at.1 (sym eq ∙ at.2)) [
        | inl before ↦ taken_before before.0 before.1
        | inr later ↦ taken_after later.0 later.1 later.2
      ]
    where
      at : (early : List ℕ) × (late : List ℕ) × (l ≡ early ++ j ∷ late)
      at = stands l j whole (took_completed j took.0 took.3.0 (Int v) took.1 took.3.1)

      x : ProblemCall Op Reply
      x = answer.0

      distinct : IsDistinct l
      distinct = whole.continuation.distinct

      end : ObjState
      end = whole.continuation.legal.0

      -- the pending call's step, which takes the item
      takes : (items : List ℤ) → s ≡ Queue items → Is (queue_step items x.op) answer.3.0 (Int v)
      takes items e =
          let step : p.after (Queue items) x.process x.op ≡ Some (answer.3.0, q) = subst (λ (u : ObjState). p.after u x.process x.op ≡ Some (answer.3.0, q)) e answer.3.1 in
          subst (λ (r : Reply). Is (queue_step items x.op) answer.3.0 r) (of_queue.exact q (Int v) same) (sym (of_queue.after_is (Queue items) x.process x.op) ∙ step)

      first : (items : List ℤ) → s ≡ Queue items → (x.op ≡ Dequeue) × ((rest : List ℤ) × (items ≡ v ∷ rest) × (answer.3.0 ≡ Queue rest))
      first items e =
          let step = takes items e in
          let op = only_dequeues items x.op answer.3.0 v step in
          (op, queue_answered items answer.3.0 v (subst (λ (o : Op). Is (queue_step items o) answer.3.0 (Int v)) op step))

      taken_before : (rest : List ℕ) → early ≡ at.0 ++ j ∷ rest → ⊥
      taken_before rest e =
          let k = legal_split at.0 (j ∷ rest) (Queue start) s (subst (λ (m : List ℕ). Legal p (Queue start) m s) e (from_start early s legal)) in
          let f = fifo at.0 start k.0 k.1 in
          let goes : Legal p (Queue f.rest) (j ∷ rest) s = subst (λ (u : ObjState). Legal p u (j ∷ rest) s) f.ends k.2 in
          let front = queue_answered f.rest goes.0 v (replied f.rest goes.0 j took.0 took.3.0 (Int v) took.1 took.2 took.3.1 goes.1) in
          let g = fifo rest front.0 s (subst (λ (u : ObjState). Legal p u rest s) front.2 goes.2) in
          let again = (first g.rest g.ends).1 in
          twice at.0 j rest k.0 s v front.0 (subst IsDistinct e (distinct_early early (c ∷ late) (subst IsDistinct eq distinct))) unique fresh (puts_none j took.0 took.1 took.2) f front.1 g (subst (λ (m : List ℤ). Item v m) (sym again.1) (inl refl))

      taken_after : (front : List ℕ) → at.0 ≡ early ++ front → c ∷ late ≡ front ++ j ∷ at.1 → ⊥
      taken_after [] e split =
          let call : c ≡ j = cc in
          let there : slice_get p.calls j ≡ Some x = subst (λ (n : ℕ). slice_get p.calls n ≡ Some x) call answer.1 in
          let one : x ≡ took.0 = (let a = took.1 in cc) in
          let none : ◌≡◌ {A = Option (ℕ × Reply)} None (Some (took.3.0, Int v)) = sym answer.2 ∙ ap (λ (y : ProblemCall Op Reply). y.returned) one ∙ took.3.1 in
          cc
      taken_after (d ∷ mid) e split =
          let call : c ≡ d = cc in
          let rest : late ≡ mid ++ j ∷ at.1 = cc in
          let f = fifo early start s (from_start early s legal) in
          let taken = first f.rest f.ends in
          let goes : Legal p s (c ∷ late) end = goes_on_from early (c ∷ late) s end (subst (λ (m : List ℕ). Legal p p.start m end) eq whole.continuation.legal.1) legal in
          let step = stepped f.rest goes.0 c x answer.1 (subst (λ (u : ObjState). next p u c ≡ Some goes.0) f.ends goes.1) in
          let same_end : goes.0 ≡ answer.3.0 = (let a = step.1 in let b = takes f.rest f.ends in state_of (sym a ∙ b)) in
          let more : Legal p (Queue taken.1.0) (mid ++ j ∷ at.1) end = subst (λ (u : ObjState). Legal p u (mid ++ j ∷ at.1) end) (same_end ∙ taken.1.2) (subst (λ (m : List ℕ). Legal p goes.0 m end) rest goes.2) in
          let two = legal_split mid (j ∷ at.1) (Queue taken.1.0) end more in
          let g = fifo mid taken.1.0 two.0 two.1 in
          let last : Legal p (Queue g.rest) (j ∷ at.1) end = subst (λ (u : ObjState). Legal p u (j ∷ at.1) end) g.ends two.2 in
          let again = queue_answered g.rest last.0 v (replied g.rest last.0 j took.0 took.3.0 (Int v) took.1 took.2 took.3.1 last.1) in
          twice early d mid s two.0 v taken.1.0 (subst IsDistinct e (distinct_early at.0 (j ∷ at.1) (subst IsDistinct at.2 distinct))) unique fresh (subst (λ (n : ℕ). puts_by (slice_get p.calls n) ≡ []) call (puts_none c x answer.1 taken.0)) f taken.1.1 g (subst (λ (m : List ℤ). Item v m) (sym again.1) (inl refl))

  -- two calls of a run do not take an item that goes in once
  pub not_taken_again : (xs : List ℕ) (a : ℕ) (mid : List ℕ) (b : ℕ) (late : List ℕ) → IsRun p (xs ++ a ∷ (mid ++ b ∷ late)) → (v : ℤ) → PutOnce p v → (Item v start → ⊥) → Took p a v → Took p b v → ⊥
  not_taken_again xs a mid b late run v unique fresh one two =
      let end = run.legal.0 in
      let k = legal_split xs (a ∷ (mid ++ b ∷ late)) (Queue start) end (from_start (xs ++ a ∷ (mid ++ b ∷ late)) end run.legal.1) in
      let f = fifo xs start k.0 k.1 in
      let goes : Legal p (Queue f.rest) (a ∷ (mid ++ b ∷ late)) end = subst (λ (u : ObjState). Legal p u (a ∷ (mid ++ b ∷ late)) end) f.ends k.2 in
      let front = queue_answered f.rest goes.0 v (replied f.rest goes.0 a one.0 one.3.0 (Int v) one.1 one.2 one.3.1 goes.1) in
      let more : Legal p (Queue front.0) (mid ++ b ∷ late) end = subst (λ (u : ObjState). Legal p u (mid ++ b ∷ late) end) front.2 goes.2 in
      let h = legal_split mid (b ∷ late) (Queue front.0) end more in
      let g = fifo mid front.0 h.0 h.1 in
      let last : Legal p (Queue g.rest) (b ∷ late) end = subst (λ (u : ObjState). Legal p u (b ∷ late) end) g.ends h.2 in
      let again = queue_answered g.rest last.0 v (replied g.rest last.0 b two.0 two.3.0 (Int v) two.1 two.2 two.3.1 last.1) in
      let distinct : IsDistinct ((xs ++ a ∷ mid) ++ b ∷ late) = subst (λ (m : List ℕ). IsDistinct m) (sym (append_assoc xs (a ∷ mid) (b ∷ late))) run.distinct in
      twice xs a mid k.0 h.0 v front.0 (distinct_early (xs ++ a ∷ mid) (b ∷ late) distinct) unique fresh (puts_none a one.0 one.1 one.2) f front.1 g (subst (λ (m : List ℤ). Item v m) (sym again.1) (inl refl))

  -- ---- what stands behind an enqueue

  not_taker : (b j : ℕ) (v : ℤ) → Puts p b v → MayTake p j v → j ≡ b → ⊥
  not_taker b j v put take e =
      let f : slice_get p.calls b ≡ Some take.0 = subst (λ (n : ℕ). slice_get p.calls n ≡ Some take.0) e take.1 in
      let g : take.0 ≡ put.0 = (let h = put.1 in cc) in
      let o : Dequeue ≡ Enqueue v = sym take.2 ∙ ap (λ (x : ProblemCall Op Reply). x.op) g ∙ put.2 in
      cc

  -- the calls up to one that stands behind an enqueue, in two parts
  record Behind (early : List ℕ) (b : ℕ) (mid : List ℕ) (i : ℕ) (late : List ℕ) : Type 0 where
    passed : ObjState
    reached : ObjState
    end : ObjState
    before : Fifo start early passed
    between : Fifo before.rest (b ∷ mid) reached
    goes_on : Legal p (Queue between.rest) (i ∷ late) end

  behind : (early : List ℕ) (b : ℕ) (mid : List ℕ) (i : ℕ) (late : List ℕ) → IsRun p ((early ++ b ∷ mid) ++ i ∷ late) → Behind early b mid i late
  behind early b mid i late run =
      let one = legal_split (early ++ b ∷ mid) (i ∷ late) (Queue start) run.legal.0 (from_start ((early ++ b ∷ mid) ++ i ∷ late) run.legal.0 run.legal.1) in
      let two = legal_split early (b ∷ mid) (Queue start) one.0 one.1 in
      let f = fifo early start two.0 two.1 in
      let g = fifo (b ∷ mid) f.rest one.0 (subst (λ (s : ObjState). Legal p s (b ∷ mid) one.0) f.ends two.2) in
      record { passed = two.0; reached = one.0; end = run.legal.0; before = f; between = g; goes_on = subst (λ (s : ObjState). Legal p s (i ∷ late) run.legal.0) g.ends one.2 }

  -- the item that call b puts in does not come out before call i, where all that may take it behind b were called after i returned
  stays : (early : List ℕ) (b : ℕ) (mid : List ℕ) (i : ℕ) (late : List ℕ) (v : ℤ) → IsRun p ((early ++ b ∷ mid) ++ i ∷ late) → (k : Behind early b mid i late) → Puts p b v → ((j : ℕ) → In j mid → MayTake p j v → Before p i j) → Item v k.between.took → ⊥
  stays early b mid i late v run k put after_it h =
      let t = k.between.taker v h in
      elim t.1 [
        | inl e ↦ not_taker b t.0 v put t.2 e
        | inr more ↦ not_before (early ++ b ∷ mid) i late run t.0 (after_it t.0 more t.2) (in_late t.0 early (b ∷ mid) (inr more))
      ]

  same_behind : (b : ℕ) (mid : List ℕ) (v : ℤ) (items took rest : List ℤ) → Puts p b v → items ++ puts (b ∷ mid) ≡ took ++ rest → items ++ (v ∷ puts mid) ≡ took ++ rest
  same_behind b mid v items took rest put e = ap (λ (l : List ℤ). items ++ (l ++ puts mid)) (sym (put_by b v put)) ∙ e

  -- where i took w, which a alone puts in, and what b puts in stays till then, a stands before b
  pub behind_item : (a b i : ℕ) (v w : ℤ) → a ≢ b → OnlyPuts p a w → (Item w start → ⊥) → Took p i w → Puts p b v → (l early late : List ℕ) → IsLinearization p l → l ≡ early ++ b ∷ late → ((j : ℕ) → In j late → MayTake p j v → Before p i j) → In a early
  behind_item a b i v w other only fresh took put l early late whole eq after_it =
      elim (place_split early (b ∷ late) at.0 i at.1 (sym eq ∙ at.2)) [
        | inl q ↦ taken_before q.0 q.1
        | inr q ↦ taken_after q.0 q.1 q.2
      ]
    where
      at : (early : List ℕ) × (late : List ℕ) × (l ≡ early ++ i ∷ late)
      at = stands l i whole (took_completed i took.0 took.3.0 (Int w) took.1 took.3.1)

      run : IsRun p (at.0 ++ i ∷ at.1)
      run = subst (λ (m : List ℕ). IsRun p m) at.2 whole.continuation

      put_in : (m : List ℕ) → Item w (start ++ puts m) → In a m
      put_in m h = elim (Item_either w start (puts m) h) [
        | inl q ↦ absurd (fresh q)
        | inr q ↦ (let k = putter m w q in subst (λ (n : ℕ). In n m) (only k.0 k.2) k.1)
      ]

      taken_before : (rest : List ℕ) → early ≡ at.0 ++ i ∷ rest → In a early
      taken_before rest e =
          let k = moment at.0 i at.1 run in
          let front = queue_answered k.so_far.rest k.goes_on.0 w (replied k.so_far.rest k.goes_on.0 i took.0 took.3.0 (Int w) took.1 took.2 took.3.1 k.goes_on.1) in
          let there : Item w (start ++ puts at.0) = subst (λ (m : List ℤ). Item w m) (sym k.so_far.same) (Item_late w k.so_far.took k.so_far.rest (subst (λ (m : List ℤ). Item w m) (sym front.1) (inl refl))) in
          subst (λ (m : List ℕ). In a m) (sym e) (in_early a at.0 (i ∷ rest) (put_in at.0 there))

      taken_after : (front : List ℕ) → at.0 ≡ early ++ front → b ∷ late ≡ front ++ i ∷ at.1 → In a early
      taken_after [] e split = absurd (
          let call : b ≡ i = cc in
          let there : slice_get p.calls i ≡ Some put.0 = subst (λ (n : ℕ). slice_get p.calls n ≡ Some put.0) call put.1 in
          let one : put.0 ≡ took.0 = (let k = took.1 in cc) in
          let op : Enqueue v ≡ Dequeue = sym put.2 ∙ ap (λ (x : ProblemCall Op Reply). x.op) one ∙ took.2 in
          cc)
      taken_after (d ∷ mid) e split =
          let call : d ≡ b = cc in
          let rest : late ≡ mid ++ i ∷ at.1 = cc in
          let place : at.0 ≡ early ++ b ∷ mid = e ∙ ap (λ (n : ℕ). early ++ n ∷ mid) call in
          let run' : IsRun p ((early ++ b ∷ mid) ++ i ∷ at.1) = subst (λ (m : List ℕ). IsRun p (m ++ i ∷ at.1)) place run in
          let k = behind early b mid i at.1 run' in
          let front = queue_answered k.between.rest k.goes_on.0 w (replied k.between.rest k.goes_on.0 i took.0 took.3.0 (Int w) took.1 took.2 took.3.1 k.goes_on.1) in
          let all = same_behind b mid v k.before.rest k.between.took k.between.rest put k.between.same ∙ ap (λ (m : List ℤ). k.between.took ++ m) front.1 in
          elim (item_split k.before.rest (v ∷ puts mid) k.between.took w front.0 all) [
            | inl q ↦ put_in early (subst (λ (m : List ℤ). Item w m) (sym k.before.same) (Item_late w k.before.took k.before.rest q))
            | inr q ↦ elim (one_more_or_out k.before.rest v w (puts mid) k.between.took q.0 front.0 q.1 q.2) [
              | inl same ↦ absurd (other (sym (only b (subst (λ (u : ℤ). Puts p b u) same put))))
              | inr out ↦ absurd (stays early b mid i at.1 v run' k put (λ j h t. after_it j (subst (λ (m : List ℕ). In j m) (sym rest) (in_early j mid (i ∷ at.1) h)) t) out)
            ]
          ]

  -- where a found the queue empty, and what b puts in stays till then, a stands before b
  pub behind_empty : (a b : ℕ) (v : ℤ) → FoundEmpty p a → Puts p b v → (l early late : List ℕ) → IsLinearization p l → l ≡ early ++ b ∷ late → ((j : ℕ) → In j late → MayTake p j v → Before p a j) → In a early
  behind_empty a b v found put l early late whole eq after_it =
      elim (place_split early (b ∷ late) at.0 a at.1 (sym eq ∙ at.2)) [
        | inl q ↦ subst (λ (m : List ℕ). In a m) (sym q.1) (in_late a at.0 (a ∷ q.0) (inl refl))
        | inr q ↦ found_after q.0 q.1 q.2
      ]
    where
      at : (early : List ℕ) × (late : List ℕ) × (l ≡ early ++ a ∷ late)
      at = stands l a whole (took_completed a found.0 found.3.0 Empty found.1 found.3.1)

      run : IsRun p (at.0 ++ a ∷ at.1)
      run = subst (λ (m : List ℕ). IsRun p m) at.2 whole.continuation

      found_after : (front : List ℕ) → at.0 ≡ early ++ front → b ∷ late ≡ front ++ a ∷ at.1 → In a early
      found_after [] e split = absurd (not_both a b v found put (cc))
      found_after (d ∷ mid) e split =
          let call : d ≡ b = cc in
          let rest : late ≡ mid ++ a ∷ at.1 = cc in
          let place : at.0 ≡ early ++ b ∷ mid = e ∙ ap (λ (n : ℕ). early ++ n ∷ mid) call in
          let run' : IsRun p ((early ++ b ∷ mid) ++ a ∷ at.1) = subst (λ (m : List ℕ). IsRun p (m ++ a ∷ at.1)) place run in
          let k = behind early b mid a at.1 run' in
          let none = queue_empty k.between.rest k.goes_on.0 (replied k.between.rest k.goes_on.0 a found.0 found.3.0 Empty found.1 found.2 found.3.1 k.goes_on.1) in
          let all = same_behind b mid v k.before.rest k.between.took k.between.rest put k.between.same ∙ ap (λ (m : List ℤ). k.between.took ++ m) none.0 ∙ append-nil k.between.took in
          let out : Item v k.between.took = subst (λ (m : List ℤ). Item v m) all (Item_late v k.before.rest (v ∷ puts mid) (inl refl)) in
          absurd (stays early b mid a at.1 v run' k put (λ j h t. after_it j (subst (λ (m : List ℕ). In j m) (sym rest) (in_early j mid (a ∷ at.1) h)) t) out)
