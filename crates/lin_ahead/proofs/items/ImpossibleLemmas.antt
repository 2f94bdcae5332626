-- An item that a call returned with was put there before: where each call that puts it there came later, there is no linearization.
use Rattle.std.proofs.Common.{◌≡◌, ℕ, Some, List, [], ◌∷◌, ◌++◌, inl, inr, refl, sym, ◌∙◌, ap, subst}
use Rattle.std.specs.Prelude.{ℤ, slice_get}
use Rattle.lin_object.specs.declared.op.Op.{Op}
use Rattle.lin_object.specs.declared.reply.Reply.{Reply}
use Rattle.lin_object.specs.declared.reply.Reply.TheVariants.{Int}
use Rattle.lin_object.specs.declared.state.ObjState.{ObjState}
use Rattle.lin_object.specs.declared.state.ObjState.TheVariants.{Stack}
use Rattle.lin_history.specs.ReplyLemmas.{reply_same}
use Rattle.lin_history.specs.Problems.ProblemParts.{ProblemParts}
use Rattle.lin_history.specs.Problems.Problem.{Problem}
use Rattle.lin_history.specs.Problems.Lists.{In}
use Rattle.lin_history.specs.Problems.ListLemmas.{in_late}
use Rattle.lin_history.specs.Problems.LegalLists.{Legal}
use Rattle.lin_history.specs.Problems.Precedence.{Before}
use Rattle.lin_history.specs.Problems.Linearizations.{IsRun, IsLinearization}
use Rattle.lin_history.specs.Problems.AnyProblem.{any_problem}
use Rattle.lin_ahead.specs.Items.Impossible.{CameTooEarly}
use Rattle.lin_ahead.specs.Queues.Queue.{IsOfQueue}
use Rattle.lin_laws.specs.Items.{Puts, Took, Pushes, Popped}
use Rattle.lin_ahead.proofs.queues.AnyLemmas.{of_any}
use Rattle.lin_ahead.proofs.items.ChainLemmas.{legal_split}
use Rattle.lin_ahead.proofs.first.NeedsLemmas.{not_before, stands}
use Rattle.lin_ahead.proofs.queues.QueueLemmas.{moment, put_place, queue_answered, replied}
use Rattle.lin_laws.specs.Exact.{IsExact}
use Rattle.lin_ahead.proofs.stacks.StackLemmas.{NeverThere, never_there, push_is_no_pop}

-- of a queue
module _ {p : Problem ObjState Op Reply} (of_queue : IsOfQueue p []) (z : ℕ) (v : ℤ) (took : Took p z v) (after_it : (a : ℕ) → Puts p a v → Before p z a) where
  queue_none : (l : List ℕ) → IsLinearization p l → ⊥
  queue_none l lin =
      let at = stands l z lin (rw (took.1, took.3.1) refl) in
      let run : IsRun p (at.0 ++ z ∷ at.1) = subst (λ (k : List ℕ). IsRun p k) at.2 lin.continuation in
      let k = moment of_queue at.0 z at.1 run in
      let answer = replied of_queue k.so_far.rest k.goes_on.0 z took.0 took.3.0 (Int v) took.1 took.2 took.3.1 k.goes_on.1 in
      let front = queue_answered k.so_far.rest k.goes_on.0 v answer in
      let put = put_place of_queue at.0 k.so_far.took v front.0 (k.so_far.same ∙ ap (λ (xs : List ℤ). k.so_far.took ++ xs) front.1) in
      not_before at.0 z at.1 run put.call (after_it put.call put.put) (subst (λ (xs : List ℕ). In put.call xs) (sym put.place) (in_late put.call put.early (put.call ∷ put.late) (inl refl)))

-- of a stack
module _ {p : Problem ObjState Op Reply} (exact : IsExact p) (starts : p.start ≡ Stack []) (z : ℕ) (v : ℤ) (popped : Popped p z v) (after_it : (a : ℕ) → Pushes p a v → Before p z a) where
  stack_none : (l : List ℕ) → IsLinearization p l → ⊥
  stack_none l lin =
      let at = stands l z lin (rw (popped.1, popped.3.1) refl) in
      let run : IsRun p (at.0 ++ z ∷ at.1) = subst (λ (k : List ℕ). IsRun p k) at.2 lin.continuation in
      let whole : Legal p (Stack []) (at.0 ++ z ∷ at.1) run.legal.0 = subst (λ (s : ObjState). Legal p s (at.0 ++ z ∷ at.1) run.legal.0) starts run.legal.1 in
      let two = legal_split p exact at.0 (z ∷ at.1) (Stack []) run.legal.0 whole in
      let before : NeverThere p exact v at.0 two.0 = never_there p exact v at.0 [] two.0 two.1 (λ h. h) (λ d there pushes. not_before at.0 z at.1 run d (after_it d pushes) there) in
      let goes : Legal p (Stack before.0) (z ∷ at.1) run.legal.0 = subst (λ (s : ObjState). Legal p s (z ∷ at.1) run.legal.0) before.1 two.2 in
      let now = never_there p exact v (z ∷ []) before.0 goes.0 (goes.0, goes.1, refl) before.2 no_push in
      now.3 z (inl refl) popped
    where
      no_push : (d : ℕ) → In d (z ∷ []) → Pushes p d v → ⊥
      no_push d (inl e) pushes = push_is_no_pop p exact d v pushes popped.0 (subst (λ (n : ℕ). slice_get p.calls n ≡ Some popped.0) (sym e) popped.1) popped.2
      no_push d (inr none) pushes = none

module _ {Object : Type 0} (p : ProblemParts Object ObjState Op Reply) where
  -- of either
  pub too_early_none : (z : ℕ) → CameTooEarly (any_problem p) z → (l : List ℕ) → IsLinearization (any_problem p) l → ⊥
  too_early_none z (v, inl (queue, took), after_it) l lin = queue_none (of_any p [] queue) z v took (λ a put. after_it a (inl put)) l lin
  too_early_none z (v, inr (stack, popped), after_it) l lin = stack_none (record { after_is = λ s process op. refl; exact = reply_same }) stack z v popped (λ a push. after_it a (inr push)) l lin
