-- Registers: their operations, what each does, and the law of their runs (this project's own).
use Rattle.std.specs.Prelude.{◌≡◌, ℕ, ℤ, true, false, List, [], ◌∷◌, codes, Option, Some, None, if◌then◌else◌}
use Rattle.std.specs.Ordering.{int_eq}
use Rattle.lin_object.specs.declared.op.Op.{Op}
use Rattle.lin_object.specs.declared.op.Op.TheVariants.{Write, Read, Cas}
use Rattle.lin_object.specs.declared.reply.Reply.{Reply}
use Rattle.lin_object.specs.declared.reply.Reply.TheVariants.{Okay, Int, Flag}
use Rattle.lin_object.specs.declared.state.ObjState.{ObjState}
use Rattle.lin_object.specs.declared.state.ObjState.TheVariants.{Register}
use Rattle.lin_object.specs.Names.{OpMaker, of_none, of_one, of_two}
use Rattle.lin_object.specs.Runs.{Behavior, Step, RunsFrom}
use Rattle.lin_object.specs.StepAnswers.{step_reply}

-- write(v), read(), cas(a,b).
abbrev pub register_operations : List (List ℕ × OpMaker)
register_operations =
    (codes "write", of_one Write)
    ∷ (codes "read", of_none Read)
    ∷ (codes "cas", of_two Cas)
    ∷ []

-- write(v) sets the value, read() answers it, cas(a,b) sets it to b where it is a, and says whether it did.
abbrev pub register_step : ℤ → Op → Option (ObjState × Reply)
register_step value (Write v) = Some (Register v, Okay)
register_step value Read = Some (Register value, Int value)
register_step value (Cas a b) =
    Some (if int_eq value a then (Register b, Flag true) else (Register value, Flag false))
register_step value op = None

-- ---- the law, in words that know nothing of the table

-- The value that a step leaves, where v was there before it.
abbrev pub value_left : ℤ → Op → Reply → ℤ
value_left v (Write w) reply = w
value_left v (Cas a b) (Flag true) = b
value_left v op reply = v

-- What was written last, by a write or by a cas that answered true; v where nothing was.
abbrev pub last_written : ℤ → List Step → ℤ
last_written v [] = v
last_written v (step ∷ steps) = last_written (value_left v step.op step.reply) steps

-- What every run of a register keeps, and what each step of it replies.
pub record RegisterLaw (after : Behavior) : Type 0 where
  -- it holds what was written last
  pub holds :
      (v : ℤ) (run : List Step) (t : ObjState) →
      RunsFrom after (Register v) run t → t ≡ Register (last_written v run)
  -- a read answers what it holds
  pub reads : (v : ℤ) (process : ℕ) → step_reply (after (Register v) process Read) ≡ Some (Int v)
  -- a write can always be made
  pub writes :
      (v w : ℤ) (process : ℕ) →
      step_reply (after (Register v) process (Write w)) ≡ Some Okay
  -- a cas can always be made, and answers whether the register held the first of its values
  pub compares :
      (v a b : ℤ) (process : ℕ) →
      step_reply (after (Register v) process (Cas a b)) ≡ Some (Flag (int_eq v a))
