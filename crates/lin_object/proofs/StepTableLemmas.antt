-- The tables of the kinds keep what `looks_at_process` and `changes_nothing` tell.
use Rattle.std.specs.Prelude.{◌≡◌, ◌⊎◌, ◌||◌, ℕ, ℤ, pos, ◌+ℤ◌, is_some, Bool, true, false, not, Option, Some, None, List, [], ◌∷◌, refl, if◌then◌else◌}
use Rattle.std.specs.Ordering.{int_eq}
use Rattle.std.specs.Cmp.{signed_Decides}
use Rattle.std.proofs.Common.{inl, inr, ap, sym, subst, true≢false, ◌∙◌}
use Rattle.std.proofs.Math.IntN.{+ℤ_idr}
use Rattle.lin_object.specs.declared.op.Op.{Op}
use Rattle.lin_object.specs.declared.op.Op.TheVariants.{Write, Read, Cas, Add, Get, Enqueue, Dequeue, Push, Pop, Insert, Remove, Contains, Lock, Unlock, TryLock, Put, Lookup, Delete}
use Rattle.lin_object.specs.declared.reply.Reply.{Reply}
use Rattle.lin_object.specs.declared.reply.Reply.TheVariants.{Okay, Int, Flag, Empty}
use Rattle.lin_object.specs.declared.state.ObjState.{ObjState}
use Rattle.lin_object.specs.declared.state.ObjState.TheVariants.{Register, Counter, Queue, Stack, Set, Mutex, Map}
use Rattle.lin_object.specs.declared.pairs.Pair.{Pair}
use Rattle.lin_object.specs.contracts.reply.ReplyPartialEq.TheImpl.{eq-value as reply_eq}
use Rattle.lin_object.specs.contracts.state.ObjStatePartialEq.TheImpl.{eq-value as state_eq}
use Rattle.lin_object.specs.StepLemmas.{state_refl}
use Rattle.lin_object.specs.Items.{is_in}
use Rattle.lin_object.specs.Pairs.{value_at, without_key}
use Rattle.lin_object.specs.Kinds.Counter.{is_in_range}
use Rattle.lin_object.specs.Kinds.{after}
use Rattle.lin_object.specs.Kinds.Mutex.{mutex_step}
use Rattle.lin_object.specs.StepAnswers.{fits, IgnoresProcess, ChangesNothing}
use Rattle.lin_object.specs.StepTables.{is_of_mutex, looks_at_process, is_no_returned, is_empty_returned, changes_nothing}

-- ---- what changes nothing

add_none : (v : ℤ) → v +ℤ pos 0 ≡ v
add_none v = +ℤ_idr v

no_step : {A : Type 0} (x : A) → None ≡ Some x → ⊥
no_step x e = cc

one_some : {A : Type 0} (x y : A) → Some x ≡ Some y → x ≡ y
one_some x y e = cc

first_part : (x y : ObjState × Reply) → Some x ≡ Some y → x.0 ≡ y.0
first_part x y e = ap (λ (p : ObjState × Reply). p.0) (one_some x y e)

second_part : (x y : ObjState × Reply) → Some x ≡ Some y → x.1 ≡ y.1
second_part x y e = ap (λ (p : ObjState × Reply). p.1) (one_some x y e)

replied_no : (r : Reply) (returned : Option (ℕ × Reply)) → is_no_returned returned ≡ true → fits reply_eq.it r returned ≡ true → r ≡ Flag false
replied_no r None e f = absurd (true≢false (sym e))
replied_no r (Some x) e f = one r x.1 e f
  where
    one : (r q : Reply) → is_no_returned (Some (0, q)) ≡ true → reply_eq.it r q ≡ true → r ≡ Flag false
    one (Flag false) q e f = refl
    one r Okay e f = absurd (true≢false (sym e))
    one r (Int v) e f = absurd (true≢false (sym e))
    one r (Flag true) e f = absurd (true≢false (sym e))
    one r Empty e f = absurd (true≢false (sym e))
    one (Flag true) (Flag false) e f = absurd (true≢false (sym f))
    one Okay (Flag false) e f = absurd (true≢false (sym f))
    one (Int v) (Flag false) e f = absurd (true≢false (sym f))
    one Empty (Flag false) e f = absurd (true≢false (sym f))

replied_empty : (r : Reply) (returned : Option (ℕ × Reply)) → is_empty_returned returned ≡ true → fits reply_eq.it r returned ≡ true → r ≡ Empty
replied_empty r None e f = absurd (true≢false (sym e))
replied_empty r (Some x) e f = one r x.1 e f
  where
    one : (r q : Reply) → is_empty_returned (Some (0, q)) ≡ true → reply_eq.it r q ≡ true → r ≡ Empty
    one Empty q e f = refl
    one r Okay e f = absurd (true≢false (sym e))
    one r (Int v) e f = absurd (true≢false (sym e))
    one r (Flag b) e f = absurd (true≢false (sym e))
    one (Flag b) Empty e f = absurd (true≢false (sym f))
    one Okay Empty e f = absurd (true≢false (sym f))
    one (Int v) Empty e f = absurd (true≢false (sym f))

flags_apart : Flag true ≡ Flag false → ⊥
flags_apart e = cc

int_not_empty : (v : ℤ) → Int v ≡ Empty → ⊥
int_not_empty v e = cc

-- a step that says whether it changed the state
if_yes_changed : (f : Bool) (changed same : ObjState) (x : ObjState × Reply) → Some (if f then (changed, Flag true) else (same, Flag false)) ≡ Some x → x.1 ≡ Flag false → same ≡ x.0
if_yes_changed true changed same x e n = absurd (flags_apart (second_part (changed, Flag true) x e ∙ n))
if_yes_changed false changed same x e n = first_part (same, Flag false) x e

if_no_changed : (f : Bool) (changed same : ObjState) (x : ObjState × Reply) → Some (if f then (same, Flag false) else (changed, Flag true)) ≡ Some x → x.1 ≡ Flag false → same ≡ x.0
if_no_changed false changed same x e n = absurd (flags_apart (second_part (changed, Flag true) x e ∙ n))
if_no_changed true changed same x e n = first_part (same, Flag false) x e

int_same : (a b : ℤ) → int_eq a b ≡ true → a ≡ b
int_same a b e = (signed_Decides a b).0 e

either : (a b : Bool) → a || b ≡ true → (a ≡ true) ⊎ (b ≡ true)
either true b e = inl refl
either false b e = inr e

one_flag : (a b : Bool) → Flag a ≡ Flag b → a ≡ b
one_flag a b e = cc

if_same : (f : Bool) (w c b : ℤ) (x : ObjState × Reply) → c ≡ b → Some (if f then (Register b, Flag true) else (Register w, Flag false)) ≡ Some x → (f ≡ true → w ≡ c) → Register w ≡ x.0
if_same true w c b x same e at_true = ap Register (at_true refl ∙ same) ∙ first_part (Register b, Flag true) x e
if_same false w c b x same e at_true = first_part (Register w, Flag false) x e

if_added : (f : Bool) (v d : ℤ) (x : ObjState × Reply) → d ≡ pos 0 → (if f then Some (Counter (v +ℤ d), Okay) else None) ≡ Some x → Counter v ≡ x.0
if_added true v d x zero_ e = ap Counter (sym (ap (λ (z : ℤ). v +ℤ z) zero_ ∙ add_none v)) ∙ first_part (Counter (v +ℤ d), Okay) x e
if_added false v d x zero_ e = absurd (no_step x e)

absent : (key : ℤ) (pairs : List Pair) → is_some (value_at key pairs) ≡ false → without_key key pairs ≡ pairs
absent key [] e = refl
absent key (p ∷ ps) e = one (absent key ps) (int_eq p.key key) refl
  where
    one : (is_some (value_at key ps) ≡ false → without_key key ps ≡ ps) → (b : Bool) → int_eq p.key key ≡ b → without_key key (p ∷ ps) ≡ p ∷ ps
    one rest true q = absurd (true≢false (rw q at e))
    one rest false q = rw q (ap (λ (l : List Pair). p ∷ l) (rest (rw q at e)))

module _ (process : ℕ) (returned : Option (ℕ × Reply)) (x : ObjState × Reply) where
  register : (v : ℤ) (op : Op) → changes_nothing op returned ≡ true → after (Register v) process op ≡ Some x → fits reply_eq.it x.1 returned ≡ true → Register v ≡ x.0
  register v Read n e f = first_part (Register v, Int v) x e
  register v (Cas a b) n e f = elim (either (int_eq a b) (is_no_returned returned) n) [
    | inl same ↦ if_same (int_eq v a) v a b x (int_same a b same) e (int_same v a)
    | inr no_ ↦ if_yes_changed (int_eq v a) (Register b) (Register v) x e (replied_no x.1 returned no_ f)
  ]
  register v (Write w) n e f = absurd (true≢false (sym n))
  register v op n e f = absurd (no_step x e)

  counter : (v : ℤ) (op : Op) → changes_nothing op returned ≡ true → after (Counter v) process op ≡ Some x → fits reply_eq.it x.1 returned ≡ true → Counter v ≡ x.0
  counter v Get n e f = first_part (Counter v, Int v) x e
  counter v (Add d) n e f = if_added (is_in_range (v +ℤ d)) v d x (int_same d (pos 0) n) e
  counter v op n e f = absurd (no_step x e)

  queue : (items : List ℤ) (op : Op) → changes_nothing op returned ≡ true → after (Queue items) process op ≡ Some x → fits reply_eq.it x.1 returned ≡ true → Queue items ≡ x.0
  queue items (Enqueue v) n e f = absurd (true≢false (sym n))
  queue [] Dequeue n e f = first_part (Queue [], Empty) x e
  queue (v ∷ items) Dequeue n e f = absurd (int_not_empty v (second_part (Queue items, Int v) x e ∙ replied_empty x.1 returned n f))
  queue [] op n e f = absurd (no_step x e)
  queue (v ∷ items) op n e f = absurd (no_step x e)

  stack : (items : List ℤ) (op : Op) → changes_nothing op returned ≡ true → after (Stack items) process op ≡ Some x → fits reply_eq.it x.1 returned ≡ true → Stack items ≡ x.0
  stack items (Push v) n e f = absurd (true≢false (sym n))
  stack [] Pop n e f = first_part (Stack [], Empty) x e
  stack (v ∷ items) Pop n e f = absurd (int_not_empty v (second_part (Stack items, Int v) x e ∙ replied_empty x.1 returned n f))
  stack [] op n e f = absurd (no_step x e)
  stack (v ∷ items) op n e f = absurd (no_step x e)

  set : (items : List ℤ) (op : Op) → changes_nothing op returned ≡ true → after (Set items) process op ≡ Some x → fits reply_eq.it x.1 returned ≡ true → Set items ≡ x.0
  set items (Contains v) n e f = first_part (Set items, Flag (is_in v items)) x e
  set items (Insert v) n e f = if_no_changed (is_in v items) _ (Set items) x e (replied_no x.1 returned n f)
  set items (Remove v) n e f = if_yes_changed (is_in v items) _ (Set items) x e (replied_no x.1 returned n f)
  set items op n e f = absurd (no_step x e)

  mutex : (holder : Option ℕ) (op : Op) → changes_nothing op returned ≡ true → after (Mutex holder) process op ≡ Some x → fits reply_eq.it x.1 returned ≡ true → Mutex holder ≡ x.0
  mutex None TryLock n e f = absurd (flags_apart (second_part (Mutex (Some process), Flag true) x e ∙ replied_no x.1 returned n f))
  mutex (Some h) TryLock n e f = first_part (Mutex (Some h), Flag false) x e
  mutex holder Lock n e f = absurd (true≢false (sym n))
  mutex holder Unlock n e f = absurd (true≢false (sym n))
  mutex None op n e f = absurd (no_step x e)
  mutex (Some h) op n e f = absurd (no_step x e)

  map : (pairs : List Pair) (op : Op) → changes_nothing op returned ≡ true → after (Map pairs) process op ≡ Some x → fits reply_eq.it x.1 returned ≡ true → Map pairs ≡ x.0
  map pairs (Lookup k) n e f = first_part (Map pairs, _) x e
  map pairs (Put k v) n e f = absurd (true≢false (sym n))
  map pairs (Delete k) n e f =
      let told : Flag (is_some (value_at k pairs)) ≡ Flag false = second_part (Map (without_key k pairs), Flag (is_some (value_at k pairs))) x e ∙ replied_no x.1 returned n f in
      sym (ap Map (absent k pairs (one_flag _ _ told))) ∙ first_part (Map (without_key k pairs), Flag (is_some (value_at k pairs))) x e
  map pairs op n e f = absurd (no_step x e)

  each : (s : ObjState) (op : Op) → changes_nothing op returned ≡ true → after s process op ≡ Some x → fits reply_eq.it x.1 returned ≡ true → s ≡ x.0
  each (Register v) op = register v op
  each (Counter v) op = counter v op
  each (Queue items) op = queue items op
  each (Stack items) op = stack items op
  each (Set items) op = set items op
  each (Mutex holder) op = mutex holder op
  each (Map pairs) op = map pairs op

pub keeps_state : (op : Op) (returned : Option (ℕ × Reply)) → changes_nothing op returned ≡ true → ChangesNothing state_eq.it reply_eq.it after op returned
keeps_state op returned n s process answer e f = subst (λ (t : ObjState). state_eq.it s t ≡ true) (each process returned answer s op n e f) (state_refl s)

-- ---- the process

mutex_alike : (holder : Option ℕ) (a b : ℕ) (op : Op) → is_of_mutex op ≡ false → mutex_step holder a op ≡ mutex_step holder b op
mutex_alike holder a b Lock e = absurd (true≢false e)
mutex_alike holder a b Unlock e = absurd (true≢false e)
mutex_alike holder a b TryLock e = absurd (true≢false e)
mutex_alike None a b op e = refl
mutex_alike (Some h) a b op e = refl

alike_for_each : (s : ObjState) (a b : ℕ) (op : Op) → is_of_mutex op ≡ false → after s a op ≡ after s b op
alike_for_each (Register v) a b op e = refl
alike_for_each (Counter v) a b op e = refl
alike_for_each (Queue items) a b op e = refl
alike_for_each (Stack items) a b op e = refl
alike_for_each (Set items) a b op e = refl
alike_for_each (Mutex holder) a b op e = mutex_alike holder a b op e
alike_for_each (Map pairs) a b op e = refl

was_true : (b : Bool) → not b ≡ false → b ≡ true
was_true true e = refl
was_true false e = absurd (true≢false e)

pub was_false : (b : Bool) → not b ≡ true → b ≡ false
was_false false e = refl
was_false true e = absurd (true≢false (sym e))

refused_alike : (s : ObjState) (a b : ℕ) (x : ObjState × Reply) → after s a TryLock ≡ Some x → x.1 ≡ Flag false → after s b TryLock ≡ Some x
refused_alike (Mutex None) a b x e n = absurd (flags_apart (second_part (Mutex (Some a), Flag true) x e ∙ n))
refused_alike (Mutex (Some h)) a b x e n = e
refused_alike (Register v) a b x e n = e
refused_alike (Counter v) a b x e n = e
refused_alike (Queue []) a b x e n = e
refused_alike (Queue (i ∷ items)) a b x e n = e
refused_alike (Stack []) a b x e n = e
refused_alike (Stack (i ∷ items)) a b x e n = e
refused_alike (Set items) a b x e n = e
refused_alike (Map pairs) a b x e n = e

pub ignores_process : (op : Op) (returned : Option (ℕ × Reply)) → looks_at_process op returned ≡ false → IgnoresProcess reply_eq.it after op returned
ignores_process TryLock returned n s a b x e f = refused_alike s a b x e (replied_no x.1 returned (was_true (is_no_returned returned) n) f)
ignores_process op returned n s a b x e f = sym (alike_for_each s a b op n) ∙ e
