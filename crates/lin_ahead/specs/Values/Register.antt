-- Problems of a register, and what their calls tell of values (this project's own).
use Rattle.std.specs.Prelude.{◌≡◌, ℕ, ℤ, true, false, Option, Some, None, slice_get}
use Rattle.lin_object.specs.declared.op.Op.{Op}
use Rattle.lin_object.specs.declared.op.Op.TheVariants.{Write, Read, Cas}
use Rattle.lin_object.specs.declared.reply.Reply.{Reply}
use Rattle.lin_object.specs.declared.reply.Reply.TheVariants.{Int, Flag}
use Rattle.lin_object.specs.declared.state.ObjState.{ObjState}
use Rattle.lin_object.specs.declared.state.ObjState.TheVariants.{Register}
use Rattle.lin_object.specs.Kinds.{after}
use Rattle.lin_history.specs.declared.problems.problem.ProblemCall.{ProblemCall}
use Rattle.lin_history.specs.Problems.Problem.{Problem}

-- A problem under the tables of the kinds that starts with a register of this value, and whose replies are equal where its
-- test says so; a state of a register is equal to itself.
pub record IsOfRegister (p : Problem ObjState Op Reply) (start : ℤ) : Type 0 where
  pub after_is : (s : ObjState) (process : ℕ) (op : Op) → p.after s process op ≡ after s process op
  pub start_is : p.start ≡ Register start
  pub exact : (r q : Reply) → p.same_reply r q ≡ true → r ≡ q
  pub same_itself : (v : ℤ) → p.same_state (Register v) (Register v) ≡ true

-- The value that a call may write: a cas may, unless it returned false.
abbrev pub value_written : Op → Option (ℕ × Reply) → Option ℤ
value_written (Write v) returned = Some v
value_written (Cas a b) (Some (number, Flag false)) = None
value_written (Cas a b) returned = Some b
value_written op returned = None

-- The value that a call found, as its reply shows: a read, or a cas that returned true.
abbrev pub value_found : Op → Option (ℕ × Reply) → Option ℤ
value_found Read (Some (number, Int v)) = Some v
value_found (Cas a b) (Some (number, Flag true)) = Some a
value_found op returned = None

module _ (p : Problem ObjState Op Reply) where
  -- The call may write this value. A pending call may, too.
  abbrev pub MayWrite : ℕ → ℤ → Type 0
  MayWrite c v = (x : ProblemCall Op Reply) × (slice_get p.calls c ≡ Some x) × (value_written x.op x.returned ≡ Some v)

  -- The call returned, and found this value.
  abbrev pub Finds : ℕ → ℤ → Type 0
  Finds c v = (x : ProblemCall Op Reply) × (slice_get p.calls c ≡ Some x) × (value_found x.op x.returned ≡ Some v)
