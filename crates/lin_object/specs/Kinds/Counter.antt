-- Counters: their operations, what each does, and the law of their runs (this project's own).
use Rattle.std.specs.Prelude.{◌≡◌, ℕ, ℤ, pos, negsuc, ◌+ℤ◌, ◌^◌, int_lt, Bool, ◌&&◌, List, [], ◌∷◌, codes, Option, Some, None, if◌then◌else◌}
use Rattle.lin_object.specs.declared.op.Op.{Op}
use Rattle.lin_object.specs.declared.op.Op.TheVariants.{Add, Get}
use Rattle.lin_object.specs.declared.reply.Reply.{Reply}
use Rattle.lin_object.specs.declared.reply.Reply.TheVariants.{Okay, Int}
use Rattle.lin_object.specs.declared.state.ObjState.{ObjState}
use Rattle.lin_object.specs.declared.state.ObjState.TheVariants.{Counter}
use Rattle.lin_object.specs.Names.{OpMaker, of_none, of_one}
use Rattle.lin_object.specs.Runs.{Behavior, Step, RunsFrom}
use Rattle.lin_object.specs.StepAnswers.{step_reply}

-- add(d), get().
abbrev pub counter_operations : List (List ℕ × OpMaker)
counter_operations = (codes "add", of_one Add) ∷ (codes "get", of_none Get) ∷ []

-- The number is one of 64 bits, from -2^63 to 2^63-1.
abbrev pub is_in_range : ℤ → Bool
is_in_range n = int_lt (negsuc (2 ^ 63)) n && int_lt n (pos (2 ^ 63))

-- add(d) adds d, with no step where the sum leaves 64 bits; get() answers the number.
abbrev pub counter_step : ℤ → Op → Option (ObjState × Reply)
counter_step value (Add d) =
    if is_in_range (value +ℤ d) then Some (Counter (value +ℤ d), Okay) else None
counter_step value Get = Some (Counter value, Int value)
counter_step value op = None

-- ---- the law, in words that know nothing of the table

-- What a step adds.
abbrev pub added_by : Op → ℤ
added_by (Add d) = d
added_by op = pos 0

-- The sum of all that was added.
abbrev pub sum_added : List Step → ℤ
sum_added [] = pos 0
sum_added (step ∷ steps) = added_by step.op +ℤ sum_added steps

-- What every run of a counter keeps, and what each step of it replies.
pub record CounterLaw (after : Behavior) : Type 0 where
  -- it holds the number from before and the sum of all that was added
  pub holds :
      (n : ℤ) (run : List Step) (t : ObjState) →
      RunsFrom after (Counter n) run t → t ≡ Counter (n +ℤ sum_added run)
  -- a get answers what it holds
  pub gets : (n : ℤ) (process : ℕ) → step_reply (after (Counter n) process Get) ≡ Some (Int n)
  -- an add can be made exactly where the sum is a number of 64 bits
  pub adds :
      (n d : ℤ) (process : ℕ) →
      step_reply (after (Counter n) process (Add d)) ≡ (if is_in_range (n +ℤ d) then Some Okay else None)
