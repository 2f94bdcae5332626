-- A call that returned with a reply that its operation never gives is in no legal list.
use Rattle.std.proofs.Common.{◌≡◌, ℕ, ◌<◌, Bool, true, false, not, Option, Some, None, List, [], ◌∷◌, length, inl, inr, refl, sym, ◌∙◌, subst, arith, if◌then◌else◌}
use Rattle.std.specs.Prelude.{ℤ, ◌+ℤ◌, ◌==◌, slice_get, slice_index, nat_le}
use Rattle.std.specs.Ordering.{int_eq}
use Rattle.lin_object.specs.declared.op.Op.{Op}
use Rattle.lin_object.specs.declared.op.Op.TheVariants.{Write, Read, Cas, Add, Get, Enqueue, Dequeue, Push, Pop, Insert, Remove, Contains, Lock, Unlock, TryLock, Put, Lookup, Delete}
use Rattle.lin_object.specs.declared.pairs.Pair.{Pair}
use Rattle.lin_object.specs.declared.reply.Reply.{Reply}
use Rattle.lin_object.specs.declared.reply.Reply.TheVariants.{Okay, Flag}
use Rattle.lin_object.specs.declared.state.ObjState.{ObjState}
use Rattle.lin_object.specs.declared.state.ObjState.TheVariants.{Register, Counter, Queue, Stack, Set, Mutex, Map}
use Rattle.lin_object.specs.contracts.reply.ReplyPartialEq.TheImpl.{eq-value as reply_eq}
use Rattle.lin_object.specs.Items.{is_in, with_in_order, without_item}
use Rattle.lin_object.specs.Pairs.{value_at, reply_to_lookup}
use Rattle.lin_object.specs.Kinds.{after}
use Rattle.lin_object.specs.Kinds.Counter.{counter_step, is_in_range}
use Rattle.lin_object.specs.Kinds.Map.{map_step}
use Rattle.lin_object.specs.Kinds.Mutex.{mutex_step}
use Rattle.lin_object.specs.Kinds.Queue.{queue_step}
use Rattle.lin_object.specs.Kinds.Register.{register_step}
use Rattle.lin_object.specs.Kinds.Set.{set_step}
use Rattle.lin_object.specs.Kinds.Stack.{stack_step}
use Rattle.lin_history.specs.declared.problems.problem.ProblemCall.{ProblemCall}
use Rattle.lin_history.specs.ReplyLemmas.{reply_same}
use Rattle.lin_history.specs.Problems.Problem.{Problem}
use Rattle.lin_history.specs.Problems.ProblemParts.{ProblemParts}
use Rattle.lin_history.specs.Problems.AnyProblem.{any_problem}
use Rattle.lin_history.specs.Problems.Lists.{In}
use Rattle.lin_history.specs.Problems.ListLemmas.{has_none}
use Rattle.lin_history.specs.Problems.LegalLists.{state_if_fits, after_call, next, Legal}
use Rattle.lin_history.specs.Problems.Precedence.{IsCompleted}
use Rattle.lin_history.specs.Problems.Linearizations.{IsLinearization}
use Rattle.lin_core.specs.Cuts.{returned_by, call_by}
use Rattle.lin_core.specs.Cores.{HasNone}
use Rattle.lin_core.specs.Replies.{is_flag, is_number_or_none, may_reply, gave_another, HaveOddReply}
use Rattle.lin_core.proofs.CheckLemmas.{below}

-- the answer of a step has such a reply, where there is one
abbrev IsShaped : Op → Option (ObjState × Reply) → Type 0
IsShaped op None = Unit {0}
IsShaped op (Some answer) = may_reply op answer.1 ≡ true

either_flag : (b : Bool) (x y : ObjState × Reply) → is_flag x.1 ≡ true → is_flag y.1 ≡ true → is_flag (if b then x else y).1 ≡ true
either_flag true x y e f = e
either_flag false x y e f = f

if_any : (b : Bool) (op : Op) (x : ObjState × Reply) → may_reply op x.1 ≡ true → IsShaped op (if b then Some x else None)
if_any true op x e = e
if_any false op x e = tt

of_lookup : (o : Option ℤ) → is_number_or_none (reply_to_lookup o) ≡ true
of_lookup None = refl
of_lookup (Some v) = refl

of_register : (v : ℤ) (op : Op) → IsShaped op (register_step v op)
of_register v (Write w) = refl
of_register v Read = refl
of_register v (Cas a b) = either_flag (int_eq v a) (Register b, Flag true) (Register v, Flag false) refl refl
of_register v op = tt

of_counter : (v : ℤ) (op : Op) → IsShaped op (counter_step v op)
of_counter v (Add d) = if_any (is_in_range (v +ℤ d)) (Add d) (Counter (v +ℤ d), Okay) refl
of_counter v Get = refl
of_counter v op = tt

of_queue : (items : List ℤ) (op : Op) → IsShaped op (queue_step items op)
of_queue items (Enqueue v) = refl
of_queue [] Dequeue = refl
of_queue (v ∷ items) Dequeue = refl
of_queue items op = tt

of_stack : (items : List ℤ) (op : Op) → IsShaped op (stack_step items op)
of_stack items (Push v) = refl
of_stack [] Pop = refl
of_stack (v ∷ items) Pop = refl
of_stack items op = tt

of_set : (items : List ℤ) (op : Op) → IsShaped op (set_step items op)
of_set items (Insert v) = either_flag (is_in v items) (Set items, Flag false) (Set (with_in_order v items), Flag true) refl refl
of_set items (Remove v) = either_flag (is_in v items) (Set (without_item v items), Flag true) (Set items, Flag false) refl refl
of_set items (Contains v) = refl
of_set items op = tt

of_mutex : (holder : Option ℕ) (process : ℕ) (op : Op) → IsShaped op (mutex_step holder process op)
of_mutex None process Lock = refl
of_mutex (Some holder) process Lock = tt
of_mutex None process Unlock = tt
of_mutex (Some holder) process Unlock = if_any (holder == process) Unlock (Mutex None, Okay) refl
of_mutex None process TryLock = refl
of_mutex (Some holder) process TryLock = refl
of_mutex None process op = tt
of_mutex (Some holder) process op = tt

of_map : (pairs : List Pair) (op : Op) → IsShaped op (map_step pairs op)
of_map pairs (Put k v) = refl
of_map pairs (Lookup k) = of_lookup (value_at k pairs)
of_map pairs (Delete k) = refl
of_map pairs op = tt

-- each table gives such replies alone
shape : (s : ObjState) (process : ℕ) (op : Op) → IsShaped op (after s process op)
shape (Register v) process op = of_register v op
shape (Counter v) process op = of_counter v op
shape (Queue items) process op = of_queue items op
shape (Stack items) process op = of_stack items op
shape (Set items) process op = of_set items op
shape (Mutex holder) process op = of_mutex holder process op
shape (Map pairs) process op = of_map pairs op

when : (b : Bool) (s t : ObjState) → (if b then Some s else None) ≡ Some t → b ≡ true
when true s t e = refl
when false s t e = absurd (cc)

not_both : (b : Bool) → b ≡ true → not b ≡ true → ⊥
not_both true e f = absurd (cc)
not_both false e f = absurd (cc)

-- so no step fits another reply
no_fit : (op : Op) (returned : Option (ℕ × Reply)) (o : Option (ObjState × Reply)) (t : ObjState) → IsShaped op o → gave_another op returned ≡ true → state_if_fits reply_eq.it returned o ≡ Some t → ⊥
no_fit op None o t shaped odd e = absurd (cc)
no_fit op (Some r) None t shaped odd e = absurd (cc)
no_fit op (Some r) (Some a) t shaped odd e =
    let same : a.1 ≡ r.1 = reply_same a.1 r.1 (when (reply_eq.it a.1 r.1) a.0 t e) in
    not_both (may_reply op r.1) (subst (λ (x : Reply). may_reply op x ≡ true) same shaped) odd

-- what returned so by an event did so
odd_if : (b : Bool) (op : Op) (r : ℕ × Reply) → gave_another op (if b then Some r else None) ≡ true → gave_another op (Some r) ≡ true
odd_if true op r e = e
odd_if false op r e = absurd (cc)

odd_by : (event : ℕ) (op : Op) (returned : Option (ℕ × Reply)) → gave_another op (returned_by event returned) ≡ true → gave_another op returned ≡ true
odd_by event op None e = e
odd_by event op (Some r) e = odd_if (nat_le r.0 event) op r e

odd_returned : (op : Op) (returned : Option (ℕ × Reply)) → gave_another op returned ≡ true → (r : ℕ × Reply) × (returned ≡ Some r)
odd_returned op None e = absurd (cc)
odd_returned op (Some r) e = (r, refl)

module _ {Object : Type 0} (whole : ProblemParts Object ObjState Op Reply) where
  abbrev p : Problem ObjState Op Reply
  p = any_problem whole

  -- a call of a legal list has its step
  step_of : (l : List ℕ) (s u : ObjState) → Legal p s l u → (c : ℕ) → In c l → (a t : ObjState) × (next p a c ≡ Some t)
  step_of [] s u k c h = absurd h
  step_of (d ∷ ds) s u k c (inl e) = (s, k.0, subst (λ (n : ℕ). next p s n ≡ Some k.0) (sym e) k.1)
  step_of (d ∷ ds) s u k c (inr h) = step_of ds k.0 u k.2 c h

  module _ (l : List ℕ) (lin : IsLinearization p l) where
    in_all : (c : ℕ) → IsCompleted p c → In c l
    in_all c done = elim (lin.complete c done) [
      | inl h ↦ absurd (let none = has_none (length p.calls) c in cc)
      | inr h ↦ h
    ]

    no_such_call : (c : ℕ) (y : ProblemCall Op Reply) → slice_get p.calls c ≡ Some y → gave_another y.op y.returned ≡ true → ⊥
    no_such_call c y there odd =
        let back = odd_returned y.op y.returned odd in
        let done : IsCompleted p c = rw (there, back.1) refl in
        let legal = lin.continuation.legal in
        let step = step_of l p.start legal.0 legal.1 c (in_all c done) in
        no_fit y.op y.returned (after step.0 y.process y.op) step.1 (shape step.0 y.process y.op) odd (subst (λ (o : Option (ProblemCall Op Reply)). after_call p step.0 o ≡ Some step.1) there step.2)

  -- a problem with such a call has no linearization
  pub odd_has_none : (event : ℕ) (kept : List ℕ) (calls : List (ProblemCall Op Reply)) → HaveOddReply p event kept calls → HasNone p
  odd_has_none event kept calls odd l lin =
      let first : 0 < length kept = (let h = below calls 0 odd.1.0 odd.1.1 in let n = odd.0.count in omega (arith, h, n)) in
      let y = odd.0.each 0 first in
      let same : Some odd.1.0 ≡ Some (call_by event y.0) = sym odd.1.1 ∙ y.3 in
      let told : gave_another y.0.op (returned_by event y.0.returned) ≡ true = of_same odd.1.0 (call_by event y.0) same odd.1.2 in
      no_such_call l lin (slice_index kept 0) y.0 y.1 (odd_by event y.0.op y.0.returned told)
    where
      of_same : (x z : ProblemCall Op Reply) → Some x ≡ Some z → gave_another x.op x.returned ≡ true → gave_another z.op z.returned ≡ true
      of_same x z e k = let f : x ≡ z = cc in subst (λ (w : ProblemCall Op Reply). gave_another w.op w.returned ≡ true) f k
