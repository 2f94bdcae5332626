-- Equal objects step alike: states and operations that are equal by the tests are the same.
use Rattle.std.specs.Prelude.{◌≡◌, ℕ, ℤ, true, false, Option, Some, None, refl}
use Rattle.std.proofs.Common.{ap, sym, eqb-true, eq-eqb, true≢false}
use Rattle.std.specs.Ordering.{int_eq}
use Rattle.std.specs.Cmp.{signed_Decides}
use Rattle.std.proofs.lemmas.Bool.{and_parts}
use Rattle.std.proofs.lemmas.Cmp.{int_eq_equiv}
use Rattle.lin_object.specs.declared.op.Op.{Op}
use Rattle.lin_object.specs.declared.op.Op.TheVariants.{Write, Read, Cas, Add, Get, Enqueue, Dequeue, Push, Pop, Insert, Remove, Contains, Lock, Unlock, TryLock, Put, Lookup, Delete}
use Rattle.lin_object.specs.declared.reply.Reply.{Reply}
use Rattle.lin_object.specs.declared.reply.Reply.TheVariants.{Okay, Int, Flag, Empty}
use Rattle.lin_object.specs.declared.state.ObjState.{ObjState}
use Rattle.lin_object.specs.declared.state.ObjState.TheVariants.{Register, Counter, Queue, Stack, Set, Mutex, Map}
use Rattle.lin_object.specs.contracts.op.OpPartialEq.TheImpl.{eq-value as op_eq}
use Rattle.lin_object.specs.contracts.reply.ReplyPartialEq.TheImpl.{eq-value as reply_eq}
use Rattle.lin_object.specs.contracts.state.ObjStatePartialEq.TheImpl.{eq-value as state_eq}
use Rattle.lin_object.specs.ItemLemmas.{items_same, items_itself}
use Rattle.lin_object.specs.PairLemmas.{pairs_same, pairs_itself}
use Rattle.lin_object.specs.StepAnswers.{SameStep}
use Rattle.lin_object.specs.Kinds.{after}

int_same : (a b : ℤ) → int_eq a b ≡ true → a ≡ b
int_same a b e = (signed_Decides a b).0 e

-- Operations that are equal by the test are the same.
pub op_same : (a b : Op) → op_eq.it a b ≡ true → a ≡ b
op_same (Write v) (Write w) e = ap Write (int_same v w e)
op_same Read Read e = refl
op_same (Cas a b) (Cas c d) e = let h = and_parts _ _ e in let h0 : a ≡ c = int_same a c h.0 in let h1 : b ≡ d = int_same b d h.1 in cc
op_same (Add v) (Add w) e = ap Add (int_same v w e)
op_same Get Get e = refl
op_same (Enqueue v) (Enqueue w) e = ap Enqueue (int_same v w e)
op_same Dequeue Dequeue e = refl
op_same (Push v) (Push w) e = ap Push (int_same v w e)
op_same Pop Pop e = refl
op_same (Insert v) (Insert w) e = ap Insert (int_same v w e)
op_same (Remove v) (Remove w) e = ap Remove (int_same v w e)
op_same (Contains v) (Contains w) e = ap Contains (int_same v w e)
op_same Lock Lock e = refl
op_same Unlock Unlock e = refl
op_same TryLock TryLock e = refl
op_same (Put a b) (Put c d) e = let h = and_parts _ _ e in let h0 : a ≡ c = int_same a c h.0 in let h1 : b ≡ d = int_same b d h.1 in cc
op_same (Lookup v) (Lookup w) e = ap Lookup (int_same v w e)
op_same (Delete v) (Delete w) e = ap Delete (int_same v w e)
op_same a b e = absurd (true≢false (sym e))

holder_same : (a b : Option ℕ) → state_eq.it (Mutex a) (Mutex b) ≡ true → a ≡ b
holder_same None None e = refl
holder_same (Some a) (Some b) e = ap Some (eqb-true a b e)
holder_same None (Some b) e = absurd (cc)
holder_same (Some a) None e = absurd (cc)

-- States that are equal by the test are the same.
pub state_same : (s t : ObjState) → state_eq.it s t ≡ true → s ≡ t
state_same (Register v) (Register w) e = ap Register (int_same v w e)
state_same (Counter v) (Counter w) e = ap Counter (int_same v w e)
state_same (Queue v) (Queue w) e = ap Queue (items_same v w e)
state_same (Stack v) (Stack w) e = ap Stack (items_same v w e)
state_same (Set v) (Set w) e = ap Set (items_same v w e)
state_same (Mutex a) (Mutex b) e = ap Mutex (holder_same a b e)
state_same (Map v) (Map w) e = ap Map (pairs_same v w e)
state_same s t e = absurd (true≢false (sym e))

-- A state is equal to itself by the test.
pub state_refl : (s : ObjState) → state_eq.it s s ≡ true
state_refl (Register v) = int_eq_equiv.refl v
state_refl (Counter v) = int_eq_equiv.refl v
state_refl (Queue items) = items_itself items
state_refl (Stack items) = items_itself items
state_refl (Set items) = items_itself items
state_refl (Mutex None) = refl
state_refl (Mutex (Some p)) = eq-eqb p p refl
state_refl (Map pairs) = pairs_itself pairs

-- A reply is equal to itself by the test.
pub reply_refl : (r : Reply) → reply_eq.it r r ≡ true
reply_refl Okay = refl
reply_refl (Int v) = int_eq_equiv.refl v
reply_refl (Flag true) = refl
reply_refl (Flag false) = refl
reply_refl Empty = refl

same_refl : (o : Option (ObjState × Reply)) → SameStep state_eq.it reply_eq.it o o
same_refl None = tt
same_refl (Some p) = (state_refl p.0, reply_refl p.1)

-- Equal states step alike by equal operations.
pub alike :
    (s t : ObjState) (process : ℕ) (a b : Op) → state_eq.it s t ≡ true → op_eq.it a b ≡ true →
    SameStep state_eq.it reply_eq.it (after s process a) (after t process b)
alike s t process a b es eo =
    rw (← state_same s t es, ← op_same a b eo) (same_refl (after s process a))
