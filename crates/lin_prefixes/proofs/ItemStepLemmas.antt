-- What one step of a queue or a stack does to its items: both are lists of which the first is taken.
use Rattle.std.proofs.Common.{◌≡◌, ℕ, Bool, true, false, cond, Option, Some, None, List, [], ◌∷◌, ◌++◌, ◌⊎◌, inl, inr, refl, sym, ◌∙◌, ap, subst, append_assoc, append-nil}
use Rattle.std.specs.Prelude.{ℤ, slice_get}
use Rattle.lin_object.specs.declared.op.Op.{Op}
use Rattle.lin_object.specs.declared.op.Op.TheVariants.{Enqueue, Dequeue, Push, Pop}
use Rattle.lin_object.specs.declared.reply.Reply.{Reply}
use Rattle.lin_object.specs.declared.reply.Reply.TheVariants.{Okay, Int}
use Rattle.lin_object.specs.declared.state.ObjState.{ObjState}
use Rattle.lin_object.specs.declared.state.ObjState.TheVariants.{Queue, Stack}
use Rattle.lin_object.specs.Kinds.{after}
use Rattle.lin_object.specs.Kinds.Queue.{queue_step}
use Rattle.lin_object.specs.Kinds.Stack.{stack_step}
use Rattle.lin_history.specs.declared.problems.problem.ProblemCall.{ProblemCall}
use Rattle.lin_history.specs.Problems.Problem.{Problem}
use Rattle.lin_history.specs.Problems.LegalLists.{fits, state_if_fits, after_call, next}
use Rattle.lin_laws.specs.Items.{AddsItem}
use Rattle.lin_laws.specs.AnswerLemmas.{Is, state_of, reply_of, fits_some}
use Rattle.lin_laws.specs.Exact.{IsExact}
use Rattle.lin_prefixes.specs.Freed.{HasReturned, TookOut}

-- The states of the problem are lists of items. A step leaves a list; an item that it leaves was there before, and the step is one
-- without it too, or it was put in; and a call that takes finds none, or takes the first and returned with it.
pub record HoldsItems (p : Problem ObjState Op Reply) (state : List ℤ → ObjState) (IsTaker : ℕ → Type 0) : Type 0 where
  pub same_items : (a b : List ℤ) → state a ≡ state b → a ≡ b
  pub leaves : (items : List ℤ) (m : ObjState) (c : ℕ) → next p (state items) c ≡ Some m → (rest : List ℤ) × (m ≡ state rest)
  pub moved : (items front : List ℤ) (w : ℤ) (rest : List ℤ) (c : ℕ) → next p (state items) c ≡ Some (state (front ++ w ∷ rest))
      → ((a : List ℤ) × (b : List ℤ) × (items ≡ a ++ w ∷ b) × (next p (state (a ++ b)) c ≡ Some (state (front ++ rest)))) ⊎ (AddsItem p c w × (items ≡ front ++ rest))
  pub takes : (items : List ℤ) (m : ObjState) (g : ℕ) → IsTaker g → next p (state items) g ≡ Some m
      → ((items ≡ []) × (m ≡ state [])) ⊎ ((w : ℤ) × (rest : List ℤ) × (items ≡ w ∷ rest) × TookOut p g w × (m ≡ state rest))

-- ---- items

-- the last item, or one before it
last_split : (xs : List ℤ) (v : ℤ) (front : List ℤ) (w : ℤ) (rest : List ℤ) → xs ++ v ∷ [] ≡ front ++ w ∷ rest
    → ((v ≡ w) × (xs ≡ front) × (rest ≡ [])) ⊎ ((more : List ℤ) × (xs ≡ front ++ w ∷ more) × (rest ≡ more ++ v ∷ []))
last_split [] v [] w rest e = inl ((cc), refl, (cc))
last_split [] v (z ∷ []) w rest e = absurd (cc)
last_split [] v (z ∷ (y ∷ front)) w rest e = absurd (cc)
last_split (x ∷ xs) v [] w rest e = inr (xs, (let h : x ≡ w = cc in ap (λ (y : ℤ). y ∷ xs) h), (let t : xs ++ v ∷ [] ≡ rest = cc in sym t))
last_split (x ∷ xs) v (z ∷ front) w rest e =
    let h : x ≡ z = cc in
    let tail : xs ++ v ∷ [] ≡ front ++ w ∷ rest = cc in
    elim (last_split xs v front w rest tail) [
      | inl q ↦ (let f = q.1 in inl (q.0, cc, q.2))
      | inr q ↦ (let f = q.1 in inr (q.0, cc, q.2))
    ]

-- the first item, or one behind it
first_split : (v : ℤ) (xs front : List ℤ) (w : ℤ) (rest : List ℤ) → v ∷ xs ≡ front ++ w ∷ rest
    → ((v ≡ w) × (xs ≡ front ++ rest)) ⊎ ((more : List ℤ) × (front ≡ v ∷ more) × (xs ≡ more ++ w ∷ rest))
first_split v xs [] w rest e = inl ((cc), (cc))
first_split v xs (z ∷ front) w rest e = inr (front, (let h : v ≡ z = cc in ap (λ (y : ℤ). y ∷ front) (sym h)), (cc))

empty_not : (front : List ℤ) (w : ℤ) (rest : List ℤ) → [] ≡ front ++ w ∷ rest → ⊥
empty_not [] w rest e = cc
empty_not (x ∷ front) w rest e = cc

same_in_queue : (a b : List ℤ) → Queue a ≡ Queue b → a ≡ b
same_in_queue a b e = cc

same_on_stack : (a b : List ℤ) → Stack a ≡ Stack b → a ≡ b
same_on_stack a b e = cc

both_same : (s t : ObjState) (r q : Reply) → s ≡ t → r ≡ q → Is (Some (s, r)) t q
both_same s t r q e f = cc

if_fits : (b : Bool) (m : ObjState) → b ≡ true → cond b (Some m) None ≡ Some m
if_fits true m e = refl
if_fits false m e = absurd (cc)

-- ---- one step of a queue

-- A step that leaves the queue with this item in it: the item was there before, and the step is one without it too; or it was put in last.
abbrev Stays : List ℤ → Op → Reply → List ℤ → ℤ → List ℤ → Type 0
Stays items op r front w rest =
    ((a : List ℤ) × (b : List ℤ) × (items ≡ a ++ w ∷ b) × Is (queue_step (a ++ b) op) (Queue (front ++ rest)) r)
    ⊎ ((op ≡ Enqueue w) × (items ≡ front ++ rest))

stays : (items : List ℤ) (op : Op) (m : ObjState) (r : Reply) (front : List ℤ) (w : ℤ) (rest : List ℤ) → Is (queue_step items op) m r → m ≡ Queue (front ++ w ∷ rest) → Stays items op r front w rest
stays items (Enqueue v) m r front w rest e f =
    elim (last_split items v front w rest (same_in_queue (items ++ v ∷ []) (front ++ w ∷ rest) (state_of e ∙ f))) [
      | inl q ↦ inr (ap Enqueue q.0, q.1 ∙ sym (append-nil front) ∙ ap (λ (l : List ℤ). front ++ l) (sym q.2))
      | inr q ↦ inl (front, q.0, q.1, both_same (Queue ((front ++ q.0) ++ v ∷ [])) (Queue (front ++ rest)) Okay r (ap Queue (append_assoc front q.0 (v ∷ []) ∙ ap (λ (l : List ℤ). front ++ l) (sym q.2))) (reply_of e))
    ]
stays [] Dequeue m r front w rest e f = absurd (empty_not front w rest (same_in_queue [] (front ++ w ∷ rest) (state_of e ∙ f)))
stays (u ∷ items) Dequeue m r front w rest e f =
    inl (u ∷ front, rest, ap (λ (l : List ℤ). u ∷ l) (same_in_queue items (front ++ w ∷ rest) (state_of e ∙ f)), both_same (Queue (front ++ rest)) (Queue (front ++ rest)) (Int u) r refl (reply_of e))
stays items op m r front w rest e f = absurd (cc)

-- a step leaves a queue
queue_left : (items : List ℤ) (op : Op) (m : ObjState) (r : Reply) → Is (queue_step items op) m r → (rest : List ℤ) × (m ≡ Queue rest)
queue_left items (Enqueue v) m r e = (items ++ v ∷ [], sym (state_of e))
queue_left [] Dequeue m r e = ([], sym (state_of e))
queue_left (u ∷ items) Dequeue m r e = (items, sym (state_of e))
queue_left items op m r e = absurd (cc)

-- ---- one step of a stack

-- A step that leaves the stack with this item on it: the item was there before, and the step is one without it too; or it was put on.
abbrev Lies : List ℤ → Op → Reply → List ℤ → ℤ → List ℤ → Type 0
Lies items op r front w rest =
    ((a : List ℤ) × (b : List ℤ) × (items ≡ a ++ w ∷ b) × Is (stack_step (a ++ b) op) (Stack (front ++ rest)) r)
    ⊎ ((op ≡ Push w) × (items ≡ front ++ rest))

lies : (items : List ℤ) (op : Op) (m : ObjState) (r : Reply) (front : List ℤ) (w : ℤ) (rest : List ℤ) → Is (stack_step items op) m r → m ≡ Stack (front ++ w ∷ rest) → Lies items op r front w rest
lies items (Push v) m r front w rest e f =
    elim (first_split v items front w rest (same_on_stack (v ∷ items) (front ++ w ∷ rest) (state_of e ∙ f))) [
      | inl q ↦ inr (ap Push q.0, q.1)
      | inr q ↦ inl (q.0, rest, q.2, both_same (Stack (v ∷ (q.0 ++ rest))) (Stack (front ++ rest)) Okay r (ap (λ (l : List ℤ). Stack (l ++ rest)) (sym q.1)) (reply_of e))
    ]
lies [] Pop m r front w rest e f = absurd (empty_not front w rest (same_on_stack [] (front ++ w ∷ rest) (state_of e ∙ f)))
lies (u ∷ items) Pop m r front w rest e f =
    inl (u ∷ front, rest, ap (λ (l : List ℤ). u ∷ l) (same_on_stack items (front ++ w ∷ rest) (state_of e ∙ f)), both_same (Stack (front ++ rest)) (Stack (front ++ rest)) (Int u) r refl (reply_of e))
lies items op m r front w rest e f = absurd (cc)

-- a step leaves a stack
stack_left : (items : List ℤ) (op : Op) (m : ObjState) (r : Reply) → Is (stack_step items op) m r → (rest : List ℤ) × (m ≡ Stack rest)
stack_left items (Push v) m r e = (v ∷ items, sym (state_of e))
stack_left [] Pop m r e = ([], sym (state_of e))
stack_left (u ∷ items) Pop m r e = (items, sym (state_of e))
stack_left items op m r e = absurd (cc)

-- ---- a call's step

module _ {p : Problem ObjState Op Reply} (exact : IsExact p) where
  called : (s m : ObjState) (c : ℕ) → next p s c ≡ Some m → (x : ProblemCall Op Reply) × (slice_get p.calls c ≡ Some x)
  called s m c step = go (slice_get p.calls c) refl
    where
      go : (o : Option (ProblemCall Op Reply)) → slice_get p.calls c ≡ o → (x : ProblemCall Op Reply) × (slice_get p.calls c ≡ Some x)
      go (Some x) e = (x, e)
      go None e = absurd (let f = rw e at step in cc)

  pub answered : (s m : ObjState) (c : ℕ) (x : ProblemCall Op Reply) → slice_get p.calls c ≡ Some x → next p s c ≡ Some m → (r : Reply) × Is (after s x.process x.op) m r × (fits p.same_reply r x.returned ≡ true)
  answered s m c x e step =
      let step' : state_if_fits p.same_reply x.returned (p.after s x.process x.op) ≡ Some m = rw e at step in
      let k = fits_some p.same_reply (p.after s x.process x.op) x.returned m step' in
      (k.0, sym (exact.after_is s x.process x.op) ∙ k.1, k.2)

  pub again : (s m : ObjState) (c : ℕ) (x : ProblemCall Op Reply) (r : Reply) → slice_get p.calls c ≡ Some x → Is (after s x.process x.op) m r → fits p.same_reply r x.returned ≡ true → next p s c ≡ Some m
  again s m c x r there is fit = ap (after_call p s) there ∙ ap (state_if_fits p.same_reply x.returned) (exact.after_is s x.process x.op ∙ is) ∙ if_fits (fits p.same_reply r x.returned) m fit

  -- the reply that was recorded is the one answered
  recorded : (x : ProblemCall Op Reply) (q : ℕ × Reply) (r : Reply) (w : ℤ) → x.returned ≡ Some q → fits p.same_reply r x.returned ≡ true → Int w ≡ r → x.returned ≡ Some (q.0, Int w)
  recorded x q r w back fit is =
      let fit' : fits p.same_reply r (Some q) ≡ true = subst (λ (o : Option (ℕ × Reply)). fits p.same_reply r o ≡ true) back fit in
      let reply : q.1 ≡ Int w = sym (exact.exact r q.1 fit') ∙ sym is in
      back ∙ ap (λ (a : Reply). Some (q.0, a)) reply

  pub queue_holds : HoldsItems p Queue (HasReturned p Dequeue)
  queue_holds = record {
    same_items = same_in_queue;
    leaves = λ items m c step.
        let call = called (Queue items) m c step in
        let k = answered (Queue items) m c call.0 call.1 step in
        queue_left items call.0.op m k.0 k.1;
    moved = λ items front w rest c step.
        let call = called (Queue items) (Queue (front ++ w ∷ rest)) c step in
        let k = answered (Queue items) (Queue (front ++ w ∷ rest)) c call.0 call.1 step in
        elim (stays items call.0.op (Queue (front ++ w ∷ rest)) k.0 front w rest k.1 refl) [
          | inl s ↦ inl (s.0, s.1, s.2, again (Queue (s.0 ++ s.1)) (Queue (front ++ rest)) c call.0 k.0 call.1 s.3 k.2)
          | inr s ↦ inr (inl (call.0, call.1, s.0), s.1)
        ];
    takes = dequeued;
  }
    where
      dequeued : (items : List ℤ) (m : ObjState) (g : ℕ) → HasReturned p Dequeue g → next p (Queue items) g ≡ Some m
          → ((items ≡ []) × (m ≡ Queue [])) ⊎ ((w : ℤ) × (rest : List ℤ) × (items ≡ w ∷ rest) × TookOut p g w × (m ≡ Queue rest))
      dequeued [] m g (x, there, op, (q, back)) step =
          let k = answered (Queue []) m g x there step in
          let is : Is (queue_step [] Dequeue) m k.0 = subst (λ (o : Op). Is (queue_step [] o) m k.0) op k.1 in
          inl (refl, sym (state_of is))
      dequeued (w ∷ rest) m g (x, there, op, (q, back)) step =
          let k = answered (Queue (w ∷ rest)) m g x there step in
          let is : Is (queue_step (w ∷ rest) Dequeue) m k.0 = subst (λ (o : Op). Is (queue_step (w ∷ rest) o) m k.0) op k.1 in
          inr (w, rest, refl, inl (x, there, op, (q.0, recorded x q k.0 w back k.2 (reply_of is))), sym (state_of is))

  pub stack_holds : HoldsItems p Stack (HasReturned p Pop)
  stack_holds = record {
    same_items = same_on_stack;
    leaves = λ items m c step.
        let call = called (Stack items) m c step in
        let k = answered (Stack items) m c call.0 call.1 step in
        stack_left items call.0.op m k.0 k.1;
    moved = λ items front w rest c step.
        let call = called (Stack items) (Stack (front ++ w ∷ rest)) c step in
        let k = answered (Stack items) (Stack (front ++ w ∷ rest)) c call.0 call.1 step in
        elim (lies items call.0.op (Stack (front ++ w ∷ rest)) k.0 front w rest k.1 refl) [
          | inl s ↦ inl (s.0, s.1, s.2, again (Stack (s.0 ++ s.1)) (Stack (front ++ rest)) c call.0 k.0 call.1 s.3 k.2)
          | inr s ↦ inr (inr (call.0, call.1, s.0), s.1)
        ];
    takes = popped;
  }
    where
      popped : (items : List ℤ) (m : ObjState) (g : ℕ) → HasReturned p Pop g → next p (Stack items) g ≡ Some m
          → ((items ≡ []) × (m ≡ Stack [])) ⊎ ((w : ℤ) × (rest : List ℤ) × (items ≡ w ∷ rest) × TookOut p g w × (m ≡ Stack rest))
      popped [] m g (x, there, op, (q, back)) step =
          let k = answered (Stack []) m g x there step in
          let is : Is (stack_step [] Pop) m k.0 = subst (λ (o : Op). Is (stack_step [] o) m k.0) op k.1 in
          inl (refl, sym (state_of is))
      popped (w ∷ rest) m g (x, there, op, (q, back)) step =
          let k = answered (Stack (w ∷ rest)) m g x there step in
          let is : Is (stack_step (w ∷ rest) Pop) m k.0 = subst (λ (o : Op). Is (stack_step (w ∷ rest) o) m k.0) op k.1 in
          inr (w, rest, refl, inr (x, there, op, (q.0, recorded x q k.0 w back k.2 (reply_of is))), sym (state_of is))
