-- One item of a queue or a stack: of the calls that are kept at least as many of it are there as in the whole.
use Rattle.std.proofs.Common.{◌≡◌, ℕ, zero, suc, ◌+◌, ◌≤◌, Bool, true, false, cond, Option, Some, None, List, [], ◌∷◌, ◌++◌, inl, refl, sym, ◌∙◌, ap, subst, arith}
use Rattle.std.specs.Prelude.{ℤ, ◌||◌}
use Rattle.std.specs.Ordering.{int_eq}
use Rattle.std.specs.Cmp.{signed_Decides}
use Rattle.lin_object.specs.declared.op.Op.{Op}
use Rattle.lin_object.specs.declared.op.Op.TheVariants.{Enqueue, Dequeue, Push, Pop}
use Rattle.lin_object.specs.declared.reply.Reply.{Reply}
use Rattle.lin_object.specs.declared.reply.Reply.TheVariants.{Int, Empty, Okay}
use Rattle.lin_object.specs.declared.state.ObjState.{ObjState}
use Rattle.lin_object.specs.declared.state.ObjState.TheVariants.{Queue, Stack}
use Rattle.lin_object.specs.contracts.reply.ReplyPartialEq.TheImpl.{eq-value as reply_eq}
use Rattle.lin_object.specs.Kinds.{after}
use Rattle.lin_object.specs.Kinds.Queue.{queue_step}
use Rattle.lin_object.specs.Kinds.Stack.{stack_step}
use Rattle.lin_history.specs.declared.problems.problem.ProblemCall.{ProblemCall}
use Rattle.lin_history.specs.ReplyLemmas.{reply_same}
use Rattle.lin_history.specs.Problems.Problem.{Problem}
use Rattle.lin_history.specs.Problems.ProblemParts.{ProblemParts}
use Rattle.lin_history.specs.Problems.LegalLists.{after_call, fits, state_if_fits}
use Rattle.lin_history.specs.Problems.AnyProblem.{any_problem}
use Rattle.lin_laws.specs.Counting.{counted}
use Rattle.lin_core.specs.Emptied.{puts, is_item, gave, took, HoldsNothing}
use Rattle.lin_core.specs.Laws.{IsLeft}
use Rattle.lin_core.specs.OneItem.{put_or_took, PutOrTook, PutsNot, ItemLaw, AreEnoughOfItem}
use Rattle.lin_core.proofs.CutLemmas.{left}
use Rattle.lin_core.proofs.EmptiedLemmas.{times, times_more, gave_item}
use Rattle.lin_core.proofs.OnValues.{fits_then, clash}

-- so many of the item
abbrev copies : ℤ → ℕ → List ℤ
copies v zero = []
copies v (suc n) = v ∷ copies v n

one_more_copy : (v : ℤ) (n : ℕ) → copies v n ++ v ∷ [] ≡ copies v (suc n)
one_more_copy v zero = refl
one_more_copy v (suc n) = ap (λ (l : List ℤ). v ∷ l) (one_more_copy v n)

-- the part holds the item alone, and at least as often as the whole
record Holds (v : ℤ) (xs ys : List ℤ) : Type 0 where
  n : ℕ
  all : ys ≡ copies v n
  enough : times v xs ≤ n

abbrev HoldsMore : ℤ → ObjState → ObjState → Type 0
HoldsMore v (Queue xs) (Queue ys) = Holds v xs ys
HoldsMore v (Stack xs) (Stack ys) = Holds v xs ys
HoldsMore v s u = ⊥

holds_none : (v : ℤ) → Holds v [] []
holds_none v = record { n = 0; all = refl; enough = omega arith }

same_item : (w v : ℤ) → int_eq w v ≡ true → w ≡ v
same_item w v e = (signed_Decides w v).0 e

-- ---- the item is put in

put_last : (v w : ℤ) (xs ys : List ℤ) → int_eq w v ≡ true → Holds v xs ys → Holds v (xs ++ w ∷ []) (ys ++ w ∷ [])
put_last v w xs ys e h = record {
  n = suc h.n;
  all = ap (λ (l : List ℤ). l ++ w ∷ []) h.all ∙ ap (λ (x : ℤ). copies v h.n ++ x ∷ []) (same_item w v e) ∙ one_more_copy v h.n;
  enough =
      let one : counted (int_eq w v) 0 ≡ 1 = ap (λ (b : Bool). counted b 0) e in
      let more = times_more v xs (w ∷ []) in
      let was = h.enough in
      omega (arith, one, more, was);
}

put_first : (v w : ℤ) (xs ys : List ℤ) → int_eq w v ≡ true → Holds v xs ys → Holds v (w ∷ xs) (w ∷ ys)
put_first v w xs ys e h = record {
  n = suc h.n;
  all = ap (λ (x : ℤ). x ∷ ys) (same_item w v e) ∙ ap (λ (l : List ℤ). v ∷ l) h.all;
  enough =
      let one : counted (int_eq w v) (times v xs) ≡ times v xs + 1 = ap (λ (b : Bool). counted b (times v xs)) e in
      let was = h.enough in
      omega (arith, one, was);
}

-- ---- another one is

other_last : (v w : ℤ) (xs ys : List ℤ) → int_eq w v ≡ false → Holds v xs ys → Holds v (xs ++ w ∷ []) ys
other_last v w xs ys e h = record {
  n = h.n;
  all = h.all;
  enough =
      let none : counted (int_eq w v) 0 ≡ 0 = ap (λ (b : Bool). counted b 0) e in
      let more = times_more v xs (w ∷ []) in
      let was = h.enough in
      omega (arith, none, more, was);
}

other_first : (v w : ℤ) (xs ys : List ℤ) → int_eq w v ≡ false → Holds v xs ys → Holds v (w ∷ xs) ys
other_first v w xs ys e h = record {
  n = h.n;
  all = h.all;
  enough = subst (λ (b : Bool). counted b (times v xs) ≤ h.n) (sym e) h.enough;
}

-- ---- something is taken

counted_less : (b : Bool) (m n : ℕ) → counted b m ≤ n → m ≤ n
counted_less true m n e = omega (arith, e)
counted_less false m n e = e

any_taken : (v w : ℤ) (xs ys : List ℤ) → Holds v (w ∷ xs) ys → Holds v xs ys
any_taken v w xs ys h = record { n = h.n; all = h.all; enough = counted_less (int_eq w v) (times v xs) h.n h.enough }

-- the item was taken: the part has one too
record Taken (v w : ℤ) (xs ys : List ℤ) : Type 0 where
  rest : List ℤ
  there : ys ≡ w ∷ rest
  held : Holds v xs rest

item_taken : (v w : ℤ) (xs ys : List ℤ) → int_eq w v ≡ true → Holds v (w ∷ xs) ys → Taken v w xs ys
item_taken v w xs ys e h = go h.n h.all (subst (λ (b : Bool). counted b (times v xs) ≤ h.n) e h.enough)
  where
    go : (n : ℕ) → ys ≡ copies v n → counted true (times v xs) ≤ n → Taken v w xs ys
    go zero all more = absurd (omega (arith, more))
    go (suc n) all more = record {
      rest = copies v n;
      there = all ∙ ap (λ (x : ℤ). x ∷ copies v n) (sym (same_item w v e));
      held = record { n = n; all = refl; enough = omega (arith, more) };
    }

-- ---- a step

-- a step of a call that is kept is one of the part too
abbrev StaysAt : ℤ → ℕ → Op → Option (ℕ × Reply) → ObjState → Option (ObjState × Reply) → Type 0
StaysAt v process op returned u None = Unit {0}
StaysAt v process op returned u (Some x) = fits reply_eq.it x.1 returned ≡ true → (t : ObjState) × (after u process op ≡ Some (t, x.1)) × HoldsMore v x.0 t

-- after a step of a call that is left out the part stays as it is
abbrev GoesAt : ℤ → ObjState → Option (ObjState × Reply) → Type 0
GoesAt v u None = Unit {0}
GoesAt v u (Some x) = HoldsMore v x.0 u

-- the item that a call gave is the one that it took
gave_it : (v w : ℤ) (returned : Option (ℕ × Reply)) → gave v returned ≡ true → fits reply_eq.it (Int w) returned ≡ true → int_eq w v ≡ true
gave_it v w None e f = clash refl (sym e)
gave_it v w (Some r) e f = sym (gave_item v r w f) ∙ e

gave_something : (v : ℤ) (returned : Option (ℕ × Reply)) → gave v returned ≡ true → fits reply_eq.it Empty returned ≡ true → ⊥
gave_something v None e f = clash refl (sym e)
gave_something v (Some r) e f = clash refl (sym (ap (is_item v) (reply_same Empty r.1 f) ∙ e))

first_of : (b : Bool) → b || false ≡ true → b ≡ true
first_of true e = refl
first_of false e = e

module _ (v : ℤ) (process : ℕ) (returned : Option (ℕ × Reply)) where
  queue_stays : (xs ys : List ℤ) (op : Op) → put_or_took v op returned ≡ true → Holds v xs ys → StaysAt v process op returned (Queue ys) (queue_step xs op)
  queue_stays xs ys (Enqueue w) k h = λ f. (Queue (ys ++ w ∷ []), refl, put_last v w xs ys (first_of (int_eq w v) k) h)
  queue_stays [] ys Dequeue k h = λ f. absurd (gave_something v returned k f)
  queue_stays (w ∷ xs) ys Dequeue k h = λ f.
      let t = item_taken v w xs ys (gave_it v w returned k f) h in
      (Queue t.rest, ap (λ (l : List ℤ). after (Queue l) process Dequeue) t.there, t.held)
  queue_stays xs ys op k h = tt

  stack_stays : (xs ys : List ℤ) (op : Op) → put_or_took v op returned ≡ true → Holds v xs ys → StaysAt v process op returned (Stack ys) (stack_step xs op)
  stack_stays xs ys (Push w) k h = λ f. (Stack (w ∷ ys), refl, put_first v w xs ys (first_of (int_eq w v) k) h)
  stack_stays [] ys Pop k h = λ f. absurd (gave_something v returned k f)
  stack_stays (w ∷ xs) ys Pop k h = λ f.
      let t = item_taken v w xs ys (gave_it v w returned k f) h in
      (Stack t.rest, ap (λ (l : List ℤ). after (Stack l) process Pop) t.there, t.held)
  stack_stays xs ys op k h = tt

  queue_goes : (xs ys : List ℤ) (op : Op) → puts v op ≡ false → Holds v xs ys → GoesAt v (Queue ys) (queue_step xs op)
  queue_goes xs ys (Enqueue w) k h = other_last v w xs ys k h
  queue_goes [] ys Dequeue k h = h
  queue_goes (w ∷ xs) ys Dequeue k h = any_taken v w xs ys h
  queue_goes xs ys op k h = tt

  stack_goes : (xs ys : List ℤ) (op : Op) → puts v op ≡ false → Holds v xs ys → GoesAt v (Stack ys) (stack_step xs op)
  stack_goes xs ys (Push w) k h = other_first v w xs ys k h
  stack_goes [] ys Pop k h = h
  stack_goes (w ∷ xs) ys Pop k h = any_taken v w xs ys h
  stack_goes xs ys op k h = tt

  stays_at : (op : Op) (s u : ObjState) → put_or_took v op returned ≡ true → HoldsMore v s u → StaysAt v process op returned u (after s process op)
  stays_at op (Queue xs) (Queue ys) k h = queue_stays xs ys op k h
  stays_at op (Stack xs) (Stack ys) k h = stack_stays xs ys op k h
  stays_at op s u k h = absurd h

  goes_at : (op : Op) (s u : ObjState) → puts v op ≡ false → HoldsMore v s u → GoesAt v u (after s process op)
  goes_at op (Queue xs) (Queue ys) k h = queue_goes xs ys op k h
  goes_at op (Stack xs) (Stack ys) k h = stack_goes xs ys op k h
  goes_at op s u k h = absurd h

  -- from steps to what a call does
  stays_of : (op : Op) (t u : ObjState) (a : Option (ObjState × Reply)) → StaysAt v process op returned u a → state_if_fits reply_eq.it returned a ≡ Some t
      → (w : ObjState) × (state_if_fits reply_eq.it returned (after u process op) ≡ Some w) × HoldsMore v t w
  stays_of op t u None k e = absurd (cc)
  stays_of op t u (Some x) k e =
      let b = fits_then (fits reply_eq.it x.1 returned) x.0 t e in
      let f = k b.0 in
      (f.0, ap (λ (y : Option (ObjState × Reply)). state_if_fits reply_eq.it returned y) f.1 ∙ ap (λ (d : Bool). cond d (Some f.0) None) b.0, subst (λ (s : ObjState). HoldsMore v s f.0) b.1 f.2)

  goes_of : (t u : ObjState) (a : Option (ObjState × Reply)) → GoesAt v u a → state_if_fits reply_eq.it returned a ≡ Some t → HoldsMore v t u
  goes_of t u None k e = absurd (cc)
  goes_of t u (Some x) k e = let b = fits_then (fits reply_eq.it x.1 returned) x.0 t e in subst (λ (s : ObjState). HoldsMore v s u) b.1 k

starts_so : (v : ℤ) (s : ObjState) → HoldsNothing s → HoldsMore v s s
starts_so v (Queue xs) e = rw e (holds_none v)
starts_so v (Stack xs) e = rw e (holds_none v)
starts_so v s e = absurd e

module _ {Object : Type 0} (parts : ProblemParts Object ObjState Op Reply) where
  abbrev A : Problem ObjState Op Reply
  A = any_problem parts

  pub item_law : ItemLaw A
  item_law v event kept calls empty enough = left A (HoldsMore v) (PutOrTook v) (PutsNot v) (starts_so v parts.start empty)
      (λ x s t u k h n. inl (stays_of v x.process x.returned x.op t u (after s x.process x.op) (stays_at v x.process x.returned x.op s u k h) n))
      (λ x s t u k h n. goes_of v x.process x.returned t u (after s x.process x.op) (goes_at v x.process x.returned x.op s u k h) n)
      event kept calls enough

  pub item_left : (event : ℕ) (kept : List ℕ) (calls : List (ProblemCall Op Reply)) (values : List ℤ) → AreEnoughOfItem A event kept calls values → IsLeft A kept calls
  item_left event kept calls values k = item_law k.item event kept calls k.starts k.enough

-- The same lists by other names.
pub of_item_as : (p : Problem ObjState Op Reply) (event : ℕ) (calls : List (ProblemCall Op Reply)) (kept kept' : List ℕ) (values values' : List ℤ) → kept ≡ kept' → values ≡ values' → AreEnoughOfItem p event kept calls values → AreEnoughOfItem p event kept' calls values'
of_item_as p event calls kept kept' values values' e f k = subst (λ (x : List ℕ). AreEnoughOfItem p event x calls values') e (subst (λ (x : List ℤ). AreEnoughOfItem p event kept calls x) f k)
