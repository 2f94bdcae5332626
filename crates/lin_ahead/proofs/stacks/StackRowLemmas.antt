-- What is told ahead of a stack's problem is right, and is all that it says of replies that are owed.
use Rattle.std.proofs.Common.{◌≡◌, ℕ, true, Some, [], length, refl, sym, ◌∙◌, ap, subst}
use Rattle.std.specs.Prelude.{ℤ, slice_get}
use Rattle.std.proofs.lemmas.List.{length-map}
use Rattle.lin_object.specs.declared.op.Op.{Op}
use Rattle.lin_object.specs.declared.op.Op.TheVariants.{Enqueue, Dequeue, Push}
use Rattle.lin_object.specs.declared.reply.Reply.{Reply}
use Rattle.lin_object.specs.declared.reply.Reply.TheVariants.{Int}
use Rattle.lin_object.specs.declared.state.ObjState.{ObjState}
use Rattle.lin_object.specs.declared.state.ObjState.TheVariants.{Stack}
use Rattle.lin_history.specs.declared.problems.problem.ProblemCall.{ProblemCall}
use Rattle.lin_history.specs.Problems.ProblemParts.{ProblemParts}
use Rattle.lin_history.specs.Problems.Problem.{Problem}
use Rattle.lin_ahead.specs.declared.stacks.rows.StackAhead.{StackAhead}
use Rattle.lin_history.specs.Problems.AnyProblem.{any_problem}
use Rattle.lin_ahead.specs.Items.Owed.{HasReply, IsOwed, AreOwed}
use Rattle.lin_laws.specs.Items.{Puts, Took, Pushes, Popped}
use Rattle.lin_ahead.specs.Stacks.Stack.{PushedOnce, OnlyPushes}
use Rattle.lin_ahead.specs.Queues.ToldOfQueue.{takers_from}
use Rattle.lin_ahead.specs.Stacks.ToldOfStack.{exchanged_op, exchanged_call, exchanged_calls, popped_once_row, AreLateRows, IsToldOfStack}
use Rattle.lin_ahead.proofs.queues.AheadLemmas.{flagged_took, took_flagged}
use Rattle.lin_history.specs.ReplyLemmas.{reply_same}
use Rattle.lin_ahead.proofs.stacks.OwedStackLemmas.{owed_top}
use Rattle.lin_ahead.proofs.items.RowLemmas.{through, seen_through}
use Rattle.lin_laws.specs.Exact.{IsExact}
use Rattle.lin_ahead.proofs.items.ToldLemmas.{same_reply}

-- ---- calls on a stack as those on a queue

exchanged_twice : (op : Op) → exchanged_op (exchanged_op op) ≡ op
exchanged_twice (Push v) = refl
exchanged_twice op = refl

exchanged_back : (op other : Op) → exchanged_op op ≡ other → op ≡ exchanged_op other
exchanged_back op other e = sym (exchanged_twice op) ∙ ap exchanged_op e

module _ (p : Problem ObjState Op Reply) where
  -- the problem with its calls read as those on a queue
  abbrev pub as_queue : Problem ObjState Op Reply
  as_queue = record { after = p.after; same_state = p.same_state; same_reply = p.same_reply; start = p.start; calls = exchanged_calls p.calls }

  -- a call of it is a call of the problem, exchanged
  call_of : (c : ℕ) (y : ProblemCall Op Reply) → slice_get (exchanged_calls p.calls) c ≡ Some y → (x : ProblemCall Op Reply) × (slice_get p.calls c ≡ Some x) × (exchanged_call x ≡ y)
  call_of c y there = through exchanged_call p.calls c y there

  pub op_of : (x y : ProblemCall Op Reply) (op : Op) → exchanged_call x ≡ y → y.op ≡ op → x.op ≡ exchanged_op op
  op_of x y op same is = exchanged_back x.op op (ap (λ (z : ProblemCall Op Reply). z.op) same ∙ is)

  pub pushes_puts : (c : ℕ) (v : ℤ) → Pushes p c v → Puts as_queue c v
  pushes_puts c v (x, there, op) = (exchanged_call x, seen_through exchanged_call p.calls c x there, ap exchanged_op op)

  pub puts_pushes : (c : ℕ) (v : ℤ) → Puts as_queue c v → Pushes p c v
  puts_pushes c v (y, there, op) = let k = call_of c y there in (k.0, k.1, op_of k.0 y (Enqueue v) k.2 op)

  pub popped_took : (c : ℕ) (v : ℤ) → Popped p c v → Took as_queue c v
  popped_took c v (x, there, op, back) = (exchanged_call x, seen_through exchanged_call p.calls c x there, ap exchanged_op op, back)

  pub took_popped : (c : ℕ) (v : ℤ) → Took as_queue c v → Popped p c v
  took_popped c v (y, there, op, (n, back)) =
      let k = call_of c y there in
      (k.0, k.1, op_of k.0 y Dequeue k.2 op, (n, ap (λ (z : ProblemCall Op Reply). z.returned) k.2 ∙ back))

  -- ---- replies that are owed

  flagged_popped : (c : ℕ) → slice_get (popped_once_row p.calls) c ≡ Some true → (v : ℤ) × Popped p c v × PushedOnce p v
  flagged_popped c e =
      let k = flagged_took as_queue c e in
      (k.0, took_popped c k.0 k.1, λ a b x y. k.2 a b (pushes_puts a k.0 x) (pushes_puts b k.0 y))

  popped_flagged : (a c : ℕ) (v : ℤ) → Pushes p a v → OnlyPushes p a v → Popped p c v → slice_get (popped_once_row p.calls) c ≡ Some true
  popped_flagged a c v pushes only popped =
      took_flagged as_queue a c v (pushes_puts a v pushes) (λ d puts. only d (puts_pushes d v puts)) (popped_took c v popped)

  -- ---- what is told

  pub stack_told : (ahead : StackAhead) → ahead.items.takers.items ≡ takers_from 0 (exchanged_calls p.calls) → ahead.items.owed.items ≡ popped_once_row p.calls → AreLateRows p.calls ahead.late → IsToldOfStack p ahead
  stack_told ahead takers owed late = record {
    owed = λ c e. flagged_popped c (rw (← owed) e);
    each_owed = ap length owed ∙ length-map (exchanged_calls p.calls) _ ∙ length-map p.calls _;
    every_owed = λ a c v pushes only popped. rw owed (popped_flagged a c v pushes only popped);
    takers = takers;
    late = late;
  }

module _ {Object : Type 0} (p : ProblemParts Object ObjState Op Reply) where
  pub exact_any : IsExact (any_problem p)
  exact_any = record { after_is = λ s process op. refl; exact = reply_same }

  owed_to : p.start ≡ Stack [] → (c : ℕ) (r : Reply) (v : ℤ) → Popped (any_problem p) c v → PushedOnce (any_problem p) v → HasReply (any_problem p) c r → IsOwed (any_problem p) r
  owed_to start c r v popped once (x, there, (m, (q, back, same))) =
      let one : x ≡ popped.0 = (let a = popped.1 in cc) in
      let item : q ≡ Int v = same_reply m popped.3.0 q (Int v) (sym back ∙ ap (λ (y : ProblemCall Op Reply). y.returned) one ∙ popped.3.1) in
      subst (λ (a : Reply). IsOwed (any_problem p) a) (sym (reply_same r q same ∙ item)) (owed_top (any_problem p) exact_any [] start v once (λ h. h) c popped)

  pub are_owed : p.start ≡ Stack [] → AreOwed (any_problem p) (popped_once_row p.calls)
  are_owed start c r e reply =
      let k = flagged_popped (any_problem p) c e in
      owed_to start c r k.0 k.1 k.2 reply
