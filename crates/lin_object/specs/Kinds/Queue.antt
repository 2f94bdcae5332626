-- Queues: their operations, what each does, and the law of their runs (this project's own).
use Rattle.std.specs.Prelude.{◌≡◌, ℕ, ℤ, List, [], ◌∷◌, ◌++◌, codes, Option, Some, None}
use Rattle.lin_object.specs.declared.op.Op.{Op}
use Rattle.lin_object.specs.declared.op.Op.TheVariants.{Enqueue, Dequeue}
use Rattle.lin_object.specs.declared.reply.Reply.{Reply}
use Rattle.lin_object.specs.declared.reply.Reply.TheVariants.{Okay, Int, Empty}
use Rattle.lin_object.specs.declared.state.ObjState.{ObjState}
use Rattle.lin_object.specs.declared.state.ObjState.TheVariants.{Queue}
use Rattle.lin_object.specs.Names.{OpMaker, of_none, of_one}
use Rattle.lin_object.specs.Runs.{Behavior, Step, RunsFrom}
use Rattle.lin_object.specs.StepAnswers.{step_reply}

-- enq(v), deq().
abbrev pub queue_operations : List (List ℕ × OpMaker)
queue_operations = (codes "enq", of_one Enqueue) ∷ (codes "deq", of_none Dequeue) ∷ []

-- The oldest item first: enq(v) puts an item last, deq() takes the oldest out.
abbrev pub queue_step : List ℤ → Op → Option (ObjState × Reply)
queue_step items (Enqueue v) = Some (Queue (items ++ v ∷ []), Okay)
queue_step [] Dequeue = Some (Queue [], Empty)
queue_step (v ∷ items) Dequeue = Some (Queue items, Int v)
queue_step items op = None

-- ---- the law, in words that know nothing of the table

-- What a step put in.
abbrev pub put_in_by : Op → List ℤ
put_in_by (Enqueue v) = v ∷ []
put_in_by op = []

-- What a step took out.
abbrev pub taken_out_by : Op → Reply → List ℤ
taken_out_by Dequeue (Int v) = v ∷ []
taken_out_by op reply = []

-- All that was put in, in order.
abbrev pub put_in : List Step → List ℤ
put_in [] = []
put_in (step ∷ steps) = put_in_by step.op ++ put_in steps

-- All that was taken out, in order.
abbrev pub taken_out : List Step → List ℤ
taken_out [] = []
taken_out (step ∷ steps) = taken_out_by step.op step.reply ++ taken_out steps

-- What every run of a queue keeps, and what each step of it replies.
pub record QueueLaw (after : Behavior) : Type 0 where
  -- what went in is what came out followed by what is left, in one order
  pub order :
      (items : List ℤ) (run : List Step) (t : ObjState) → RunsFrom after (Queue items) run t →
      (rest : List ℤ) × (t ≡ Queue rest) × (items ++ put_in run ≡ taken_out run ++ rest)
  -- an item can always be put in
  pub puts :
      (items : List ℤ) (v : ℤ) (process : ℕ) →
      step_reply (after (Queue items) process (Enqueue v)) ≡ Some Okay
  -- a deq answers an item where any is left
  pub takes :
      (v : ℤ) (items : List ℤ) (process : ℕ) →
      step_reply (after (Queue (v ∷ items)) process Dequeue) ≡ Some (Int v)
  -- and empty where none is
  pub empty : (process : ℕ) → step_reply (after (Queue []) process Dequeue) ≡ Some Empty
