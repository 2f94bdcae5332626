-- No pending pop takes an item that goes on the stack once, where another call returned with it.
use Rattle.std.proofs.Common.{◌≡◌, ℕ, Option, Some, None, List, [], ◌∷◌, ◌++◌, length, inl, inr, refl, sym, ◌∙◌, ap, subst, append_assoc}
use Rattle.std.specs.Prelude.{ℤ, slice_get, IfSome}
use Rattle.lin_object.specs.declared.op.Op.{Op}
use Rattle.lin_object.specs.declared.op.Op.TheVariants.{Pop}
use Rattle.lin_object.specs.declared.reply.Reply.{Reply}
use Rattle.lin_object.specs.declared.reply.Reply.TheVariants.{Int}
use Rattle.lin_object.specs.declared.state.ObjState.{ObjState}
use Rattle.lin_object.specs.declared.state.ObjState.TheVariants.{Stack}
use Rattle.lin_object.specs.Kinds.Stack.{stack_step}
use Rattle.lin_history.specs.declared.problems.problem.ProblemCall.{ProblemCall}
use Rattle.lin_history.specs.Problems.Problem.{Problem}
use Rattle.lin_history.specs.Problems.Lists.{In, IsDistinct}
use Rattle.lin_history.specs.Problems.LegalLists.{next, Legal}
use Rattle.lin_history.specs.Problems.Precedence.{IsCompleted}
use Rattle.lin_search.specs.CallSetLemmas.{no_calls_has}
use Rattle.lin_ahead.specs.Queues.Queue.{Item}
use Rattle.lin_ahead.specs.Items.Owed.{IsOwed}
use Rattle.lin_ahead.specs.Stacks.Stack.{PushedOnce}
use Rattle.lin_laws.specs.Items.{Popped}
use Rattle.lin_laws.specs.Exact.{IsExact}
use Rattle.lin_ahead.proofs.stacks.StackLemmas.{IsPoppedBy, only_pops, call_moves, push_is_no_pop, legal_rest, WasPushed, top_of, one_popper}

module _ (p : Problem ObjState Op Reply) (exact : IsExact p) where
  -- a stack stays one
  pub still_stack : (l : List ℕ) (items : List ℤ) (t : ObjState) → Legal p (Stack items) l t → (end : List ℤ) × (t ≡ Stack end)
  still_stack [] items t e = (items, sym e)
  still_stack (c ∷ cs) items t (m, step, more) = elim (call_moves p exact items m c step) [
    | inl put ↦ still_stack cs (put.0 ∷ items) t (subst (λ (s : ObjState). Legal p s cs t) put.2 more)
    | inr (inl take) ↦ still_stack cs take.1 t (subst (λ (s : ObjState). Legal p s cs t) take.4 more)
    | inr (inr none) ↦ still_stack cs [] t (subst (λ (s : ObjState). Legal p s cs t) none.2 more)
  ]

  -- a pop of what lies on top leaves what lies under it
  pop_leaves : (v : ℤ) (rest : List ℤ) (m : ObjState) (c : ℕ) (x : ProblemCall Op Reply) → slice_get p.calls c ≡ Some x → x.op ≡ Pop → next p (Stack (v ∷ rest)) c ≡ Some m → m ≡ Stack rest
  pop_leaves v rest m c x there op step = elim (call_moves p exact (v ∷ rest) m c step) [
    | inl put ↦ absurd (push_is_no_pop p exact c put.0 put.1 x there op)
    | inr (inl take) ↦ (let left : take.1 ≡ rest = (let e = take.3 in cc) in take.4 ∙ ap Stack left)
    | inr (inr none) ↦ absurd (let e = none.0 in cc)
  ]

pub item_at : (v : ℤ) (front rest : List ℤ) → Item v (front ++ v ∷ rest)
item_at v [] rest = inl refl
item_at v (x ∷ front) rest = inr (item_at v front rest)

pub owed_top : (p : Problem ObjState Op Reply) → IsExact p → (start : List ℤ) → p.start ≡ Stack start → (v : ℤ) → PushedOnce p v → (Item v start → ⊥) → (j : ℕ) → Popped p j v → IsOwed p (Int v)
owed_top p exact start starts v once fresh j popped l early late c s q whole eq legal answer same =
    elim (top_of p exact early start v taken.0 (subst (λ (t : ObjState). Legal p (Stack start) early t) on_top from_start)) [
      | inl lay ↦ fresh (subst (λ (l : List ℤ). Item v l) (sym lay.1) (item_at v lay.0 taken.0))
      | inr was ↦ go taken.0 on_top taken.1 was
    ]
  where
    x : ProblemCall Op Reply
    x = answer.0

    from_start : Legal p (Stack start) early s
    from_start = subst (λ (t : ObjState). Legal p t early s) starts legal

    here : (end : List ℤ) × (s ≡ Stack end)
    here = still_stack p exact early start s from_start

    taken : (rest : List ℤ) × (x.op ≡ Pop) × (here.0 ≡ v ∷ rest) × (answer.3.0 ≡ Stack rest)
    taken =
        let step : p.after (Stack here.0) x.process x.op ≡ Some (answer.3.0, q) = subst (λ (u : ObjState). p.after u x.process x.op ≡ Some (answer.3.0, q)) here.1 answer.3.1 in
        only_pops here.0 x.op answer.3.0 v (subst (λ (r : Reply). stack_step here.0 x.op ≡ Some (answer.3.0, r)) (exact.exact q (Int v) same) (sym (exact.after_is (Stack here.0) x.process x.op) ∙ step))

    on_top : s ≡ Stack (v ∷ taken.0)
    on_top = here.1 ∙ ap Stack taken.2

    done : IsCompleted p j
    done = rw (popped.1, popped.3.1) refl

    there : In j l
    there = elim (whole.complete j done) [
      | inl no_call ↦ absurd (let none = no_calls_has (length p.calls) j in cc)
      | inr k ↦ k
    ]

    go : (rest : List ℤ) → s ≡ Stack (v ∷ rest) → x.op ≡ Pop → WasPushed p exact start early v rest → ⊥
    go rest top op was =
        let end = whole.continuation.legal.0 in
        let place : l ≡ was.before ++ was.d ∷ (was.mid ++ c ∷ late) = eq ∙ ap (λ (m : List ℕ). m ++ c ∷ late) was.place ∙ append_assoc was.before (was.d ∷ was.mid) (c ∷ late) in
        let all : Legal p (Stack start) l end = subst (λ (t : ObjState). Legal p t l end) starts whole.continuation.legal.1 in
        let rest_of : Legal p s (c ∷ late) end = legal_rest p exact early (c ∷ late) (Stack start) s end (subst (λ (m : List ℕ). Legal p (Stack start) m end) eq all) from_start in
        let step : next p (Stack (v ∷ rest)) c ≡ Some rest_of.0 = subst (λ (t : ObjState). next p t c ≡ Some rest_of.0) top rest_of.1 in
        let by : IsPoppedBy p (Stack start) was.before was.d was.mid c = record {
          item = v;
          below = rest;
          so_far = was.so_far;
          pushes = was.pushes;
          step = was.step;
          popped = record {
            stays = was.stays;
            pops = (x, answer.1, op, subst (λ (o : Option (ℕ × Reply)). IfSome o (λ r. r.1 ≡ Int v)) (sym answer.2) tt);
            step = step ∙ ap Some (pop_leaves p exact v rest rest_of.0 c x answer.1 op step);
          };
        } in
        let one : j ≡ c = one_popper p exact start was.before was.d was.mid c late end by (subst IsDistinct place whole.continuation.distinct) (subst (λ (m : List ℕ). Legal p (Stack start) m end) place all) v was.pushes (λ a h puts. once a was.d puts was.pushes) fresh j (subst (λ (m : List ℕ). In j m) place there) popped in
        let call : x ≡ popped.0 = (let a = answer.1 in let b = subst (λ (n : ℕ). slice_get p.calls n ≡ Some popped.0) one popped.1 in cc) in
        let none : ◌≡◌ {A = Option (ℕ × Reply)} None (Some (popped.3.0, Int v)) = sym answer.2 ∙ ap (λ (y : ProblemCall Op Reply). y.returned) call ∙ popped.3.1 in
        absurd (cc)
