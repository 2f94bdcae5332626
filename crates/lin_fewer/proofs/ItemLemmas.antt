-- A completion without an item that nobody takes, and without the pending call that takes it.
use Rattle.std.proofs.Common.{◌≡◌, ◌≢◌, ℕ, ◌+◌, ◌<◌, ◌≤◌, Bool, true, false, Option, Some, None, List, [], ◌∷◌, ◌++◌, ◌⊎◌, length, inl, inr, refl, sym, ◌∙◌, ap, subst, append_assoc, append-nil, arith, cond}
use Rattle.std.specs.Prelude.{ℤ, slice_get, IsSome}
use Rattle.std.specs.Ordering.{int_eq}
use Rattle.std.specs.Option.{unwrap_or}
use Rattle.std.specs.Cmp.{signed_Decides}
use Rattle.lin_object.specs.declared.op.Op.{Op}
use Rattle.lin_object.specs.declared.op.Op.TheVariants.{Enqueue, Dequeue, Push, Pop}
use Rattle.lin_object.specs.declared.reply.Reply.{Reply}
use Rattle.lin_object.specs.declared.reply.Reply.TheVariants.{Int}
use Rattle.lin_object.specs.declared.state.ObjState.{ObjState}
use Rattle.lin_object.specs.declared.state.ObjState.TheVariants.{Queue, Stack, Mutex}
use Rattle.lin_object.specs.contracts.reply.ReplyPartialEq.TheImpl.{eq-value as reply_eq}
use Rattle.lin_object.specs.Kinds.{after}
use Rattle.lin_object.specs.Kinds.Queue.{queue_step}
use Rattle.lin_object.specs.Kinds.Stack.{stack_step}
use Rattle.lin_history.specs.declared.problems.problem.ProblemCall.{ProblemCall}
use Rattle.lin_history.specs.ReplyLemmas.{reply_same}
use Rattle.lin_history.specs.Problems.Problem.{Problem}
use Rattle.lin_history.specs.Problems.ProblemParts.{ProblemParts}
use Rattle.lin_history.specs.Problems.AnyProblem.{any_problem}
use Rattle.lin_history.specs.Problems.LegalLists.{after_call, fits, state_if_fits, next}
use Rattle.lin_history.specs.Problems.Precedence.{IsCompleted}
use Rattle.lin_history.specs.Problems.Continuations.{has, IsCompletion}
use Rattle.lin_laws.specs.AnswerLemmas.{fits_some}
use Rattle.lin_laws.specs.Items.{AddsItem}
use Rattle.lin_search.specs.CallSet.{with_call}
use Rattle.lin_search.specs.CallSetLemmas.{true_or_false, below_or_last, has_same, has_still, has_with, length_calls}
use Rattle.lin_search.specs.Configuration.{Configuration}
use Rattle.lin_search.specs.FirstCallLemmas.{completion_split, completion_join, complete_none, none_completes, next_within}
use Rattle.lin_search.specs.NextCall.{IsNext}
use Rattle.lin_fewer.specs.Fewer.{UsedFewer, FewerLaw}
use Rattle.lin_fewer.specs.Fronts.{HasCompletedBelow}
use Rattle.lin_fewer.specs.Items.{ReturnedWith, NobodyTakes, AreEndsTo, AreTakenTo, noted}
use Rattle.lin_fewer.specs.Turns.{IsNeedless}
use Rattle.lin_fewer.proofs.FewerLemmas.{before_completed}
use Rattle.lin_fewer.proofs.FrontLemmas.{completed_by, completed_within}

pub same_item : (v w : ℤ) → ◌≡◌ {A = Option ℤ} (Some v) (Some w) → v ≡ w
same_item v w e = cc

-- ---- one item more

-- the first list is the second with the item once more
abbrev HasMore : ℤ → List ℤ → List ℤ → Type 0
HasMore v xs ys = (a : List ℤ) × (b : List ℤ) × (xs ≡ a ++ v ∷ b) × (ys ≡ a ++ b)

abbrev IsMore : ℤ → ObjState → ObjState → Type 0
IsMore v (Queue xs) (Queue ys) = HasMore v xs ys
IsMore v (Stack xs) (Stack ys) = HasMore v xs ys
IsMore v s t = ⊥

-- the operation takes an item out
abbrev Takes : Op → Type 0
Takes op = (op ≡ Dequeue) ⊎ (op ≡ Pop)

module _ (v : ℤ) (process : ℕ) where
  -- a step is one without the item too; or it takes the item
  abbrev StepAt : Op → ObjState → Option (ObjState × Reply) → Type 0
  StepAt op t None = Unit {0}
  StepAt op t (Some y) = ((u : ObjState) × (after t process op ≡ Some (u, y.1)) × IsMore v y.0 u) ⊎ ((y.0 ≡ t) × (y.1 ≡ Int v) × Takes op)

  queue_more : (a b : List ℤ) (op : Op) → StepAt op (Queue (a ++ b)) (queue_step (a ++ v ∷ b) op)
  queue_more a b (Enqueue w) = inl (Queue ((a ++ b) ++ w ∷ []), refl, (a, b ++ w ∷ [], append_assoc a (v ∷ b) (w ∷ []), append_assoc a b (w ∷ [])))
  queue_more [] b Dequeue = inr (refl, refl, inl refl)
  queue_more (x ∷ a) b Dequeue = inl (Queue (a ++ b), refl, (a, b, refl, refl))
  queue_more a b op = tt

  stack_more : (a b : List ℤ) (op : Op) → StepAt op (Stack (a ++ b)) (stack_step (a ++ v ∷ b) op)
  stack_more a b (Push w) = inl (Stack (w ∷ (a ++ b)), refl, (w ∷ a, b, refl, refl))
  stack_more [] b Pop = inr (refl, refl, inr refl)
  stack_more (x ∷ a) b Pop = inl (Stack (a ++ b), refl, (a, b, refl, refl))
  stack_more a b op = tt

  step_more : (op : Op) (s t : ObjState) → IsMore v s t → StepAt op t (after s process op)
  step_more op (Queue xs) (Queue ys) h = subst (λ (zs : List ℤ). StepAt op (Queue ys) (queue_step zs op)) (sym h.2) (subst (λ (zs : List ℤ). StepAt op (Queue zs) (queue_step (h.0 ++ v ∷ h.1) op)) (sym h.3) (queue_more h.0 h.1 op))
  step_more op (Stack xs) (Stack ys) h = subst (λ (zs : List ℤ). StepAt op (Stack ys) (stack_step zs op)) (sym h.2) (subst (λ (zs : List ℤ). StepAt op (Stack zs) (stack_step (h.0 ++ v ∷ h.1) op)) (sym h.3) (stack_more h.0 h.1 op))
  step_more op s t h = absurd h

  -- what puts the item in leads to one more
  abbrev AddAt : ObjState → Option (ObjState × Reply) → Type 0
  AddAt s None = Unit {0}
  AddAt s (Some y) = IsMore v y.0 s

  enqueue_more : (s : ObjState) → AddAt s (after s process (Enqueue v))
  enqueue_more (Queue xs) = (xs, [], refl, sym (append-nil xs))
  enqueue_more (Mutex None) = tt
  enqueue_more (Mutex (Some holder)) = tt
  enqueue_more s = tt

  push_more : (s : ObjState) → AddAt s (after s process (Push v))
  push_more (Stack xs) = ([], xs, refl, refl)
  push_more (Mutex None) = tt
  push_more (Mutex (Some holder)) = tt
  push_more s = tt

-- a call that fits the reply is pending, or returned with it
replied : (reply : Reply) (returned : Option (ℕ × Reply)) → fits reply_eq.it reply returned ≡ true → (returned ≡ None) ⊎ ((n : ℕ) × (returned ≡ Some (n, reply)))
replied reply None f = inl refl
replied reply (Some r) f = inr (r.0, ap (λ (q : Reply). Some (r.0, q)) (sym (reply_same reply r.1 f)))

module _ {Object : Type 0} (parts : ProblemParts Object ObjState Op Reply) where
  abbrev p : Problem ObjState Op Reply
  p = any_problem parts

  -- a step of a call that is there, with its reply
  record IsStep (c : ℕ) (s m : ObjState) : Type 0 where
    call : ProblemCall Op Reply
    there : slice_get p.calls c ≡ Some call
    reply : Reply
    answer : after s call.process call.op ≡ Some (m, reply)
    fit : fits reply_eq.it reply call.returned ≡ true

  step_of : (c : ℕ) (s m : ObjState) → next p s c ≡ Some m → IsStep c s m
  step_of c s m n = go (slice_get p.calls c) refl n
    where
      go : (o : Option (ProblemCall Op Reply)) → slice_get p.calls c ≡ o → after_call p s o ≡ Some m → IsStep c s m
      go None e f = absurd (cc)
      go (Some x) e f = let k = fits_some reply_eq.it (after s x.process x.op) x.returned m f in record { call = x; there = e; reply = k.0; answer = k.1; fit = k.2 }

  returned_completed : (c : ℕ) (v : ℤ) → ReturnedWith p c v → IsCompleted p c
  returned_completed c v (inl took) = completed_by p c took.0 (took.3.0, Int v) took.1 took.3.1
  returned_completed c v (inr popped) = completed_by p c popped.0 (popped.3.0, Int v) popped.1 popped.3.1

  pub returned_within : (c : ℕ) (v : ℤ) → ReturnedWith p c v → c < length p.calls
  returned_within c v h = completed_within p c (returned_completed c v h)

  -- who takes the item, and is left, is pending
  taker_pending : (set : List Bool) (v : ℤ) (c : ℕ) (x : ProblemCall Op Reply) → NobodyTakes p set v → has set c ≡ false → slice_get p.calls c ≡ Some x → Takes x.op → fits reply_eq.it (Int v) x.returned ≡ true → IsCompleted p c → ⊥
  taker_pending set v c x nobody outside there takes fit done = elim (replied (Int v) x.returned fit) [
    | inl none ↦ not_done x.returned none (let h : IsSome x.returned = rw there at done in h)
    | inr some ↦ nobody c outside (elim takes [ inl deq ↦ inl (x, there, deq, some) | inr pop ↦ inr (x, there, pop, some) ])
  ]
    where
      not_done : (o : Option (ℕ × Reply)) → o ≡ None → IsSome o → ⊥
      not_done None e h = absurd (cc)
      not_done (Some q) e h = absurd (cc)

  nobody_more : (set : List Bool) (v : ℤ) (c : ℕ) → c < length set → NobodyTakes p set v → NobodyTakes p (with_call set c) v
  nobody_more set v c within nobody d outside = nobody d (elim (true_or_false (has set d)) [
    | inl h ↦ absurd (let k = has_still set c d within h in cc)
    | inr h ↦ h
  ])

  -- ---- sets of which the second has a pending call more

  -- a pending call more
  fewer_without : (a b : List Bool) (c : ℕ) → c < length a → (IsCompleted p c → ⊥) → UsedFewer p b a → UsedFewer p b (with_call a c)
  fewer_without a b c within pending less = record {
    subset = λ d h. has_still a c d within (less.subset d h);
    completed = λ d done h. elim (has_with a c d h) [
      | inl e ↦ absurd (pending (subst (λ (n : ℕ). IsCompleted p n) e done))
      | inr k ↦ less.completed d done k
    ];
  }

  -- the same call more in both
  fewer_with : (a b : List Bool) (c : ℕ) → c < length a → c < length b → UsedFewer p b a → UsedFewer p (with_call b c) (with_call a c)
  fewer_with a b c in_a in_b less = record {
    subset = λ d h. elim (has_with b c d h) [
      | inl e ↦ subst (λ (n : ℕ). has (with_call a c) n ≡ true) (sym e) (has_same a c in_a)
      | inr k ↦ has_still a c d in_a (less.subset d k)
    ];
    completed = λ d done h. elim (has_with a c d h) [
      | inl e ↦ subst (λ (n : ℕ). has (with_call b c) n ≡ true) (sym e) (has_same b c in_b)
      | inr k ↦ has_still b c d in_b (less.completed d done k)
    ];
  }

  -- what can follow the one set can follow the other, where it has this step
  next_fewer : (a b : List Bool) (s m t u : ObjState) (c : ℕ) → UsedFewer p b a → IsNext p a s c m → next p t c ≡ Some u → IsNext p b t c u
  next_fewer a b s m t u c less is step = record {
    outside = elim (true_or_false (has b c)) [
      | inl h ↦ absurd (let k = less.subset c h in let o = is.outside in cc)
      | inr h ↦ h
    ];
    preceded = λ d before. less.completed d (before_completed p d c before) (is.preceded d before);
    step = step;
  }

  module _ (fewer : FewerLaw p) (same_itself : (s : ObjState) → p.same_state s s ≡ true) (v : ℤ) where
    -- no longer than the other, from the configuration without the item
    abbrev HasThin : List Bool → ObjState → List ℕ → Type 0
    HasThin b t l = (m : List ℕ) × IsCompletion p b t m × (length m ≤ length l)

    thin : (l : List ℕ) (a b : List Bool) (s t : ObjState) → length a ≡ length p.calls → length b ≡ length p.calls → UsedFewer p b a → IsMore v s t → NobodyTakes p a v → IsCompletion p a s l → HasThin b t l
    thin [] a b s t flags_a flags_b less more nobody k = ([], none_completes p b t (λ c done. less.completed c done (complete_none p a s k c done)), omega arith)
    thin (c ∷ l) a b s t flags_a flags_b less more nobody k = go (λ (u : ObjState) (h : IsMore v one.0 u). thin l (with_call a c) (with_call b c) one.0 u count_a count_b (fewer_with a b c in_a in_b less) h (nobody_more a v c in_a nobody) one.2) (subst (StepAt v step.call.process step.call.op t) step.answer (step_more v step.call.process step.call.op s t more))
      where
        one : (u : ObjState) × IsNext p a s c u × IsCompletion p (with_call a c) u l
        one = completion_split p a s c l flags_a k

        step : IsStep c s one.0
        step = step_of c s one.0 one.1.step

        within : c < length p.calls
        within = next_within p s one.0 c one.1.step

        in_a : c < length a
        in_a = let h = within in omega (arith, h, flags_a)

        in_b : c < length b
        in_b = let h = within in omega (arith, h, flags_b)

        count_a : length (with_call a c) ≡ length p.calls
        count_a = length_calls a (c ∷ []) ∙ flags_a

        count_b : length (with_call b c) ≡ length p.calls
        count_b = length_calls b (c ∷ []) ∙ flags_b

        go : ((u : ObjState) → IsMore v one.0 u → HasThin (with_call b c) u l) → StepAt v step.call.process step.call.op t (Some (one.0, step.reply)) → HasThin b t (c ∷ l)
        go rest (inl still) =
            let r = rest still.0 still.2 in
            let does : next p t c ≡ Some still.0 = ap (after_call p t) step.there ∙ ap (state_if_fits reply_eq.it step.call.returned) still.1 ∙ ap (λ (q : Bool). cond q (Some still.0) None) step.fit in
            (c ∷ r.0, completion_join p b t c r.0 still.0 flags_b (next_fewer a b s one.0 t still.0 c less one.1 does) r.1, (let h = r.2 in omega (arith, h)))
        go rest (inr taken) =
            let fit : fits reply_eq.it (Int v) step.call.returned ≡ true = subst (λ (q : Reply). fits reply_eq.it q step.call.returned ≡ true) taken.1 step.fit in
            let pending = taker_pending a v c step.call nobody one.1.outside step.there taken.2 fit in
            let same : p.same_state t one.0 ≡ true = subst (λ (u : ObjState). p.same_state t u ≡ true) (sym taken.0) (same_itself t) in
            (l, (fewer b (with_call a c) t one.0 (record { fewer = fewer_without a b c in_a pending less; state = same })).completions l one.2, omega arith)

    -- a call that puts the item in leads to one more
    added : (e : ℕ) (s m : ObjState) → AddsItem p e v → IsStep e s m → IsMore v m s
    added e s m (inl puts) step =
        let same : ◌≡◌ {A = Option (ProblemCall Op Reply)} (Some step.call) (Some puts.0) = sym step.there ∙ puts.1 in
        let is : step.call.op ≡ Enqueue v = (let q : step.call ≡ puts.0 = cc in ap (λ (x : ProblemCall Op Reply). x.op) q ∙ puts.2) in
        subst (AddAt v step.call.process s) (sym (ap (after s step.call.process) is) ∙ step.answer) (enqueue_more v step.call.process s)
    added e s m (inr pushes) step =
        let same : ◌≡◌ {A = Option (ProblemCall Op Reply)} (Some step.call) (Some pushes.0) = sym step.there ∙ pushes.1 in
        let is : step.call.op ≡ Push v = (let q : step.call ≡ pushes.0 = cc in ap (λ (x : ProblemCall Op Reply). x.op) q ∙ pushes.2) in
        subst (AddAt v step.call.process s) (sym (ap (after s step.call.process) is) ∙ step.answer) (push_more v step.call.process s)

    pub needless : (x : Configuration ObjState) (e : ℕ) → length x.lifted ≡ length p.calls → (IsCompleted p e → ⊥) → AddsItem p e v → NobodyTakes p x.lifted v → IsNeedless p x e
    needless x e flags pending adds nobody l k =
        let one = completion_split p x.lifted x.state e l flags k in
        let in_e : e < length x.lifted = (let h = next_within p x.state one.0 e one.1.step in omega (arith, h, flags)) in
        let itself : UsedFewer p x.lifted x.lifted = record { subset = λ c h. h; completed = λ c done h. h } in
        thin l (with_call x.lifted e) x.lifted one.0 x.state (length_calls x.lifted (e ∷ []) ∙ flags) flags (fewer_without x.lifted x.lifted e in_e pending itself) (added e x.state one.0 adds (step_of e x.state one.0 one.1.step)) (nobody_more x.lifted v e in_e nobody) one.2

  -- ---- what is noted of items

  pub ends_none : (ends : ℤ → Option ℕ) → AreEndsTo p ends 0
  ends_none ends v c less h = absurd (omega (arith, less))

  module _ (ends : ℤ → Option ℕ) (i : ℕ) (are : AreEndsTo p ends i) where
    pub ends_skip : ((v : ℤ) → ReturnedWith p i v → ⊥) → AreEndsTo p ends (i + 1)
    ends_skip none v c less h = elim (below_or_last c i less) [
      | inl early ↦ are v c early h
      | inr same ↦ absurd (none v (subst (λ (n : ℕ). ReturnedWith p n v) same h))
    ]

    pub ends_more : (item : ℤ) (new : ℤ → Option ℕ) → ((v : ℤ) → ReturnedWith p i v → ◌≡◌ {A = Option ℤ} (Some item) (Some v)) → new item ≡ Some (i + 1) → ((v : ℤ) → v ≢ item → new v ≡ ends v) → AreEndsTo p new (i + 1)
    ends_more item new is own others v c less h = go (int_eq v item) refl
      where
        go : (b : Bool) → int_eq v item ≡ b → c < noted new v
        go true e =
            let same : v ≡ item = (signed_Decides v item).0 e in
            let here : noted new v ≡ i + 1 = ap (noted new) same ∙ ap (λ (o : Option ℕ). unwrap_or o 0) own in
            omega (arith, here, less)
        go false e =
            let differs : v ≢ item = (λ q. (let t = (signed_Decides v item).1 q in absurd (cc))) in
            let still : noted new v ≡ noted ends v = ap (λ (o : Option ℕ). unwrap_or o 0) (others v differs) in
            elim (below_or_last c i less) [
              | inl early ↦ (let a = are v c early h in omega (arith, a, still))
              | inr last ↦ absurd (differs (sym (same_item item v (is v (subst (λ (n : ℕ). ReturnedWith p n v) last h)))))
            ]

    pub ends_all : length p.calls ≤ i → AreEndsTo p ends (length p.calls)
    ends_all past v c less h = are v c (omega (arith, less, past)) h

  -- ---- the calls that returned with an item, one by one

  pub taken_first : (set : List Bool) (v : ℤ) (first : ℕ) → HasCompletedBelow p set first → AreTakenTo p set v first
  taken_first set v first below c less outside h = let k = below c less (returned_completed c v h) in absurd (cc)

  module _ (set : List Bool) (v : ℤ) (i : ℕ) (are : AreTakenTo p set v i) where
    pub taken_more : (has set i ≡ false → ReturnedWith p i v → ⊥) → AreTakenTo p set v (i + 1)
    taken_more none c less outside h = elim (below_or_last c i less) [
      | inl early ↦ are c early outside h
      | inr same ↦ none (subst (λ (n : ℕ). has set n ≡ false) same outside) (subst (λ (n : ℕ). ReturnedWith p n v) same h)
    ]

    pub taken_end : ((c : ℕ) → ReturnedWith p c v → c < i) → NobodyTakes p set v
    taken_end all c outside h = are c (all c h) outside h
