-- One step of a queue or a stack: what it does without lost items, and how often each item is there after it.
use Rattle.std.proofs.Common.{◌≡◌, ℕ, zero, suc, ◌+◌, ◌≤◌, Bool, true, false, cond, Option, Some, None, is_none, List, [], ◌∷◌, ◌++◌, ◌⊎◌, inl, inr, refl, sym, ◌∙◌, ap, subst, append-nil, arith}
use Rattle.std.specs.Prelude.{ℤ, not, nat_eq, filter}
use Rattle.std.specs.Ordering.{int_eq}
use Rattle.std.specs.Cmp.{signed_Decides}
use Rattle.std.proofs.lemmas.List.Elements.{filter-append}
use Rattle.lin_object.specs.declared.op.Op.{Op}
use Rattle.lin_object.specs.declared.op.Op.TheVariants.{Enqueue, Dequeue, Push, Pop}
use Rattle.lin_object.specs.declared.reply.Reply.{Reply}
use Rattle.lin_object.specs.declared.reply.Reply.TheVariants.{Int, Empty}
use Rattle.lin_object.specs.declared.state.ObjState.{ObjState}
use Rattle.lin_object.specs.declared.state.ObjState.TheVariants.{Queue, Stack}
use Rattle.lin_object.specs.contracts.reply.ReplyPartialEq.TheImpl.{eq-value as reply_eq}
use Rattle.lin_object.specs.Kinds.{after}
use Rattle.lin_object.specs.Kinds.Queue.{queue_step}
use Rattle.lin_object.specs.Kinds.Stack.{stack_step}
use Rattle.lin_history.specs.ReplyLemmas.{reply_same}
use Rattle.lin_history.specs.Problems.LegalLists.{fits}
use Rattle.lin_laws.specs.Counting.{counted}
use Rattle.lin_lost.specs.Counts.{item_put, item_given, is_of}
use Rattle.lin_lost.specs.Lost.{HoldsNothing, is_left_out}

no : true ≡ false → ⊥
no e = cc

pub clash : {A : Type 0} {b : Bool} → b ≡ true → b ≡ false → A
clash e f = absurd (no (sym e ∙ f))

-- ---- how often an item is there

abbrev times : ℤ → List ℤ → ℕ
times v [] = 0
times v (x ∷ xs) = counted (int_eq x v) (times v xs)

abbrev pub often : ℤ → ObjState → ℕ
often v (Queue xs) = times v xs
often v (Stack xs) = times v xs
often v s = 0

-- a queue or a stack
abbrev pub HasItems : ObjState → Type 0
HasItems (Queue xs) = Unit {0}
HasItems (Stack xs) = Unit {0}
HasItems s = ⊥

pub none_first : (v : ℤ) (s : ObjState) → HoldsNothing s → often v s ≡ 0
none_first v (Queue xs) e = ap (times v) e
none_first v (Stack xs) e = ap (times v) e
none_first v s e = absurd e

times_last : (v w : ℤ) (xs : List ℤ) → times v (xs ++ w ∷ []) ≡ counted (int_eq w v) (times v xs)
times_last v w [] = refl
times_last v w (x ∷ xs) = ap (counted (int_eq x v)) (times_last v w xs) ∙ swapped (int_eq x v) (int_eq w v) (times v xs)
  where
    swapped : (a b : Bool) (n : ℕ) → counted a (counted b n) ≡ counted b (counted a n)
    swapped true true n = refl
    swapped true false n = refl
    swapped false true n = refl
    swapped false false n = refl

-- after a step an item is there no more often than before, with what was put in, and without what was given
abbrev CountAt : ℤ → Op → Option (ℕ × Reply) → ObjState → Option (ObjState × Reply) → Type 0
CountAt v op returned s None = Unit {0}
CountAt v op returned s (Some y) = HasItems y.0 × (fits reply_eq.it y.1 returned ≡ true → often v y.0 + counted (is_of (item_given op returned) v) 0 ≤ often v s + counted (is_of (item_put op) v) 0)

put_more : (b : Bool) (n m : ℕ) → m ≡ counted b n → m + 0 ≤ n + counted b 0
put_more true n m e = omega (arith, e)
put_more false n m e = omega (arith, e)

taken_less : (b : Bool) (n : ℕ) → n + 0 ≤ counted b n + 0
taken_less true n = omega arith
taken_less false n = omega arith

given_less : (b : Bool) (n : ℕ) → n + counted b 0 ≤ counted b n + 0
given_less true n = omega arith
given_less false n = omega arith

-- a call that fits the reply is pending, or returned with it
replied : (reply : Reply) (returned : Option (ℕ × Reply)) → fits reply_eq.it reply returned ≡ true → (returned ≡ None) ⊎ ((n : ℕ) × (returned ≡ Some (n, reply)))
replied reply None f = inl refl
replied reply (Some r) f = inr (r.0, ap (λ (q : Reply). Some (r.0, q)) (sym (reply_same reply r.1 f)))

module _ (v : ℤ) (returned : Option (ℕ × Reply)) where
  -- by what an operation that takes an item gives
  module _ (op : Op) (of_none : item_given op None ≡ None) (of_empty : (n : ℕ) → item_given op (Some (n, Empty)) ≡ None) (of_item : (n : ℕ) (w : ℤ) → item_given op (Some (n, Int w)) ≡ Some w) where
    gave_none : fits reply_eq.it Empty returned ≡ true → 0 + counted (is_of (item_given op returned) v) 0 ≤ 0 + 0
    gave_none f = subst (λ (o : Option ℤ). 0 + counted (is_of o v) 0 ≤ 0 + 0) (sym given) (omega arith)
      where
        given : item_given op returned ≡ None
        given = elim (replied Empty returned f) [ inl e ↦ ap (item_given op) e ∙ of_none | inr e ↦ ap (item_given op) e.1 ∙ of_empty e.0 ]

    gave_item : (w : ℤ) (xs : List ℤ) → fits reply_eq.it (Int w) returned ≡ true → times v xs + counted (is_of (item_given op returned) v) 0 ≤ counted (int_eq w v) (times v xs) + 0
    gave_item w xs f = elim (replied (Int w) returned f) [
      | inl e ↦ subst (λ (o : Option ℤ). times v xs + counted (is_of o v) 0 ≤ counted (int_eq w v) (times v xs) + 0) (sym (ap (item_given op) e ∙ of_none)) (taken_less (int_eq w v) (times v xs))
      | inr e ↦ subst (λ (o : Option ℤ). times v xs + counted (is_of o v) 0 ≤ counted (int_eq w v) (times v xs) + 0) (sym (ap (item_given op) e.1 ∙ of_item e.0 w)) (given_less (int_eq w v) (times v xs))
    ]

  queue_counts : (xs : List ℤ) (op : Op) → CountAt v op returned (Queue xs) (queue_step xs op)
  queue_counts xs (Enqueue w) = (tt, λ f. put_more (int_eq w v) (times v xs) (times v (xs ++ w ∷ [])) (times_last v w xs))
  queue_counts [] Dequeue = (tt, λ f. gave_none Dequeue refl (λ n. refl) (λ n w. refl) f)
  queue_counts (w ∷ xs) Dequeue = (tt, λ f. gave_item Dequeue refl (λ n. refl) (λ n w. refl) w xs f)
  queue_counts xs op = tt

  stack_counts : (xs : List ℤ) (op : Op) → CountAt v op returned (Stack xs) (stack_step xs op)
  stack_counts xs (Push w) = (tt, λ f. put_more (int_eq w v) (times v xs) (times v (w ∷ xs)) refl)
  stack_counts [] Pop = (tt, λ f. gave_none Pop refl (λ n. refl) (λ n w. refl) f)
  stack_counts (w ∷ xs) Pop = (tt, λ f. gave_item Pop refl (λ n. refl) (λ n w. refl) w xs f)
  stack_counts xs op = tt

  counts_at : (process : ℕ) (op : Op) (s : ObjState) → HasItems s → CountAt v op returned s (after s process op)
  counts_at process op (Queue xs) h = queue_counts xs op
  counts_at process op (Stack xs) h = stack_counts xs op
  counts_at process op s h = absurd h

-- after a step whose reply fits
pub counts_of : (v : ℤ) (process : ℕ) (op : Op) (returned : Option (ℕ × Reply)) (s m : ObjState) (r : Reply) → HasItems s → after s process op ≡ Some (m, r) → fits reply_eq.it r returned ≡ true → HasItems m × (often v m + counted (is_of (item_given op returned) v) 0 ≤ often v s + counted (is_of (item_put op) v) 0)
counts_of v process op returned s m r h e f = let k = subst (CountAt v op returned s) e (counts_at v returned process op s h) in (k.0, k.1 f)

-- ---- the items that stay

module _ (takes : ℤ → ℕ) where
  -- not a lost item
  abbrev pub stays : ℤ → Bool
  stays v = not (nat_eq (takes v) 0)

  abbrev among : List ℤ → List ℤ
  among xs = filter stays xs

  -- the second state is the first without lost items
  abbrev pub IsRest : ObjState → ObjState → Type 0
  IsRest (Queue xs) (Queue ys) = among xs ≡ ys
  IsRest (Stack xs) (Stack ys) = among xs ≡ ys
  IsRest s u = ⊥

  pub rest_items : (s u : ObjState) → IsRest s u → HasItems s
  rest_items (Queue xs) (Queue ys) e = tt
  rest_items (Stack xs) (Stack ys) e = tt
  rest_items s u e = absurd e

  pub rest_start : (s : ObjState) → HoldsNothing s → IsRest s s
  rest_start (Queue xs) e = rw e refl
  rest_start (Stack xs) e = rw e refl
  rest_start s e = absurd e

  kept_first : (v : ℤ) (xs : List ℤ) → stays v ≡ true → among (v ∷ xs) ≡ v ∷ among xs
  kept_first v xs e = ap (λ (b : Bool). cond b (v ∷ among xs) (among xs)) e

  lost_first : (v : ℤ) (xs : List ℤ) → stays v ≡ false → among (v ∷ xs) ≡ among xs
  lost_first v xs e = ap (λ (b : Bool). cond b (v ∷ among xs) (among xs)) e

  kept_last : (xs ys : List ℤ) (v : ℤ) → stays v ≡ true → among xs ≡ ys → among (xs ++ v ∷ []) ≡ ys ++ v ∷ []
  kept_last xs ys v h e = filter-append stays xs (v ∷ []) ∙ ap (λ (l : List ℤ). among xs ++ l) (kept_first v [] h) ∙ ap (λ (l : List ℤ). l ++ v ∷ []) e

  lost_last : (xs ys : List ℤ) (v : ℤ) → stays v ≡ false → among xs ≡ ys → among (xs ++ v ∷ []) ≡ ys
  lost_last xs ys v h e = filter-append stays xs (v ∷ []) ∙ ap (λ (l : List ℤ). among xs ++ l) (lost_first v [] h) ∙ append-nil (among xs) ∙ e

  is_kept : (b : Bool) → b ≡ false → not b ≡ true
  is_kept true e = absurd (no e)
  is_kept false e = refl

  is_lost : (b : Bool) → b ≡ true → not b ≡ false
  is_lost true e = refl
  is_lost false e = absurd (no (sym e))

  has_returned : (returned : Option (ℕ × Reply)) → is_none returned ≡ false → returned ≡ None → ⊥
  has_returned None e f = no e
  has_returned (Some r) e f = absurd (cc)

  is_pending : (returned : Option (ℕ × Reply)) → is_none returned ≡ true → returned ≡ None
  is_pending None e = refl
  is_pending (Some r) e = absurd (no (sym e))

  module _ (process : ℕ) (returned : Option (ℕ × Reply)) where
    -- a step of a call that is kept is one without lost items too
    abbrev StayAt : Op → ObjState → Option (ObjState × Reply) → Type 0
    StayAt op u None = Unit {0}
    StayAt op u (Some y) = fits reply_eq.it y.1 returned ≡ true → (v : ObjState) × (after u process op ≡ Some (v, y.1)) × IsRest y.0 v

    -- after a step of a call that is left out the rest stays as it is; or an item that is not lost was taken
    abbrev GoAt : Op → ObjState → ObjState → Option (ObjState × Reply) → Type 0
    GoAt op s u None = Unit {0}
    GoAt op s u (Some y) = IsRest y.0 u ⊎ ((v : ℤ) × (stays v ≡ true) × (often v s ≡ often v y.0 + 1) × (item_given op returned ≡ None))

    abbrev Gives : Op → Type 0
    Gives op = (v : ℤ) → item_given op returned ≡ Some v → stays v ≡ true

    given : (op : Op) → ((n : ℕ) (w : ℤ) → item_given op (Some (n, Int w)) ≡ Some w) → Gives op → is_none returned ≡ false → (w : ℤ) → fits reply_eq.it (Int w) returned ≡ true → stays w ≡ true
    given op of_item gives done w f = elim (replied (Int w) returned f) [
      | inl e ↦ absurd (has_returned returned done e)
      | inr e ↦ gives w (ap (item_given op) e.1 ∙ of_item e.0 w)
    ]

    once_more : (w : ℤ) (xs : List ℤ) → times w (w ∷ xs) ≡ times w xs + 1
    once_more w xs = ap (λ (b : Bool). counted b (times w xs)) ((signed_Decides w w).1 refl)

    none_given : (op : Op) → item_given op None ≡ None → is_none returned ≡ true → item_given op returned ≡ None
    none_given op of_none pending = ap (item_given op) (is_pending returned pending) ∙ of_none

    queue_stays : (xs ys : List ℤ) (op : Op) → is_left_out takes op returned ≡ false → Gives op → among xs ≡ ys → StayAt op (Queue ys) (queue_step xs op)
    queue_stays xs ys (Enqueue v) k g e = λ f. (Queue (ys ++ v ∷ []), refl, kept_last xs ys v (is_kept (nat_eq (takes v) 0) k) e)
    queue_stays [] ys Dequeue k g e = λ f. (Queue [], ap (λ (l : List ℤ). after (Queue l) process Dequeue) (sym e), refl)
    queue_stays (v ∷ xs) ys Dequeue k g e = λ f. (Queue (among xs), ap (λ (l : List ℤ). after (Queue l) process Dequeue) (sym e ∙ kept_first v xs (given Dequeue (λ n w. refl) g k v f)), refl)
    queue_stays xs ys op k g e = tt

    stack_stays : (xs ys : List ℤ) (op : Op) → is_left_out takes op returned ≡ false → Gives op → among xs ≡ ys → StayAt op (Stack ys) (stack_step xs op)
    stack_stays xs ys (Push v) k g e = λ f. (Stack (v ∷ ys), refl, kept_first v xs (is_kept (nat_eq (takes v) 0) k) ∙ ap (λ (l : List ℤ). v ∷ l) e)
    stack_stays [] ys Pop k g e = λ f. (Stack [], ap (λ (l : List ℤ). after (Stack l) process Pop) (sym e), refl)
    stack_stays (v ∷ xs) ys Pop k g e = λ f. (Stack (among xs), ap (λ (l : List ℤ). after (Stack l) process Pop) (sym e ∙ kept_first v xs (given Pop (λ n w. refl) g k v f)), refl)
    stack_stays xs ys op k g e = tt

    queue_goes : (xs ys : List ℤ) (op : Op) → is_left_out takes op returned ≡ true → among xs ≡ ys → GoAt op (Queue xs) (Queue ys) (queue_step xs op)
    queue_goes xs ys (Enqueue v) k e = inl (lost_last xs ys v (is_lost (nat_eq (takes v) 0) k) e)
    queue_goes [] ys Dequeue k e = inl e
    queue_goes (v ∷ xs) ys Dequeue k e = go (stays v) refl
      where
        go : (b : Bool) → stays v ≡ b → GoAt Dequeue (Queue (v ∷ xs)) (Queue ys) (Some (Queue xs, Int v))
        go true h = inr (v, h, once_more v xs, none_given Dequeue refl k)
        go false h = inl (sym (lost_first v xs h) ∙ e)
    queue_goes xs ys op k e = tt

    stack_goes : (xs ys : List ℤ) (op : Op) → is_left_out takes op returned ≡ true → among xs ≡ ys → GoAt op (Stack xs) (Stack ys) (stack_step xs op)
    stack_goes xs ys (Push v) k e = inl (lost_first v xs (is_lost (nat_eq (takes v) 0) k) ∙ e)
    stack_goes [] ys Pop k e = inl e
    stack_goes (v ∷ xs) ys Pop k e = go (stays v) refl
      where
        go : (b : Bool) → stays v ≡ b → GoAt Pop (Stack (v ∷ xs)) (Stack ys) (Some (Stack xs, Int v))
        go true h = inr (v, h, once_more v xs, none_given Pop refl k)
        go false h = inl (sym (lost_first v xs h) ∙ e)
    stack_goes xs ys op k e = tt

    stays_at : (op : Op) (s u : ObjState) → is_left_out takes op returned ≡ false → Gives op → IsRest s u → StayAt op u (after s process op)
    stays_at op (Queue xs) (Queue ys) k g e = queue_stays xs ys op k g e
    stays_at op (Stack xs) (Stack ys) k g e = stack_stays xs ys op k g e
    stays_at op s u k g e = absurd e

    goes_at : (op : Op) (s u : ObjState) → is_left_out takes op returned ≡ true → IsRest s u → GoAt op s u (after s process op)
    goes_at op (Queue xs) (Queue ys) k e = queue_goes xs ys op k e
    goes_at op (Stack xs) (Stack ys) k e = stack_goes xs ys op k e
    goes_at op s u k e = absurd e

    -- the same of a step whose reply fits
    pub stay_of : (op : Op) (s u m : ObjState) (r : Reply) → is_left_out takes op returned ≡ false → Gives op → IsRest s u → after s process op ≡ Some (m, r) → fits reply_eq.it r returned ≡ true → (v : ObjState) × (after u process op ≡ Some (v, r)) × IsRest m v
    stay_of op s u m r k g e is f = subst (StayAt op u) is (stays_at op s u k g e) f

    pub go_of : (op : Op) (s u m : ObjState) (r : Reply) → is_left_out takes op returned ≡ true → IsRest s u → after s process op ≡ Some (m, r) → IsRest m u ⊎ ((v : ℤ) × (stays v ≡ true) × (often v s ≡ often v m + 1) × (item_given op returned ≡ None))
    go_of op s u m r k e is = subst (GoAt op s u) is (goes_at op s u k e)
