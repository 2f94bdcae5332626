-- Stacks: their operations, what each does, and the law of their runs (this project's own).
use Rattle.std.specs.Prelude.{◌≡◌, ℕ, ℤ, List, [], ◌∷◌, ◌++◌, codes, Option, Some, None}
use Rattle.lin_object.specs.declared.op.Op.{Op}
use Rattle.lin_object.specs.declared.op.Op.TheVariants.{Push, Pop}
use Rattle.lin_object.specs.declared.reply.Reply.{Reply}
use Rattle.lin_object.specs.declared.reply.Reply.TheVariants.{Okay, Int, Empty}
use Rattle.lin_object.specs.declared.state.ObjState.{ObjState}
use Rattle.lin_object.specs.declared.state.ObjState.TheVariants.{Stack}
use Rattle.lin_object.specs.Names.{OpMaker, of_none, of_one}
use Rattle.lin_object.specs.Runs.{Behavior, Step, RunsFrom}

-- push(v), pop().
abbrev pub stack_operations : List (List ℕ × OpMaker)
stack_operations = (codes "push", of_one Push) ∷ (codes "pop", of_none Pop) ∷ []

-- The newest item first: push(v) puts an item on top, pop() takes the newest out.
abbrev pub stack_step : List ℤ → Op → Option (ObjState × Reply)
stack_step items (Push v) = Some (Stack (v ∷ items), Okay)
stack_step [] Pop = Some (Stack [], Empty)
stack_step (v ∷ items) Pop = Some (Stack items, Int v)
stack_step items op = None

-- ---- the law, in words that know nothing of the table

-- What every run of a stack keeps, and what each step of it replies.
pub record StackLaw (after : Behavior) : Type 0 where
  -- an item can always be put on a stack, which stays one
  pub puts :
      (items : List ℤ) (v : ℤ) (process : ℕ) →
      (rest : List ℤ) × (after (Stack items) process (Push v) ≡ Some (Stack rest, Okay))
  -- after a push a pop can be made: it answers what was pushed, and leaves what was there before the push
  pub takes :
      (s m : ObjState) (p q : ℕ) (v : ℤ) (pushed : Reply) →
      after s p (Push v) ≡ Some (m, pushed) → after m q Pop ≡ Some (s, Int v)
  -- a pop of a stack that holds nothing answers empty, and leaves it so
  pub empty : (process : ℕ) → after (Stack []) process Pop ≡ Some (Stack [], Empty)
  -- so a pop undoes the push before it, anywhere in a run: without the two the run is the same
  pub undoes :
      (s t : ObjState) (early late : List Step) (p q : ℕ) (v : ℤ) (pushed popped : Reply) →
      RunsFrom after s
      (early
      ++ record { process = p; op = Push v; reply = pushed }
      ∷ record { process = q; op = Pop; reply = popped }
      ∷ late)
      t →
      (popped ≡ Int v) × RunsFrom after s (early ++ late) t
