-- What is known ahead of a counter is right, and all of it is told.
use Rattle.std.proofs.Common.{◌≡◌, true, false}
use Rattle.std.specs.Prelude.{ℤ}
use Rattle.lin_object.specs.declared.op.Op.{Op}
use Rattle.lin_object.specs.declared.reply.Reply.{Reply}
use Rattle.lin_object.specs.declared.state.ObjState.{ObjState}
use Rattle.lin_object.specs.declared.state.ObjState.TheVariants.{Counter}
use Rattle.lin_history.specs.Problems.ProblemParts.{ProblemParts}
use Rattle.lin_history.specs.Problems.AnyProblem.{any_problem}
use Rattle.lin_ahead.specs.declared.counters.rows.SumRows.{SumRows}
use Rattle.lin_ahead.specs.Behind.{IsRightOfCounter}
use Rattle.lin_ahead.specs.Counters.Sums.{AreLimits}
use Rattle.lin_ahead.specs.Counters.ToldOfCounter.{IsToldOfCounter}
use Rattle.lin_ahead.proofs.stacks.StackRowLemmas.{exact_any}
use Rattle.lin_ahead.proofs.counters.SumLemmas.{none_over}

module _ {Object : Type 0} (p : ProblemParts Object ObjState Op Reply) (start : ℤ) (starts : p.start ≡ Counter start) (rows : SumRows) where
  pub counter_right : AreLimits (any_problem p) start true rows.up.items → AreLimits (any_problem p) start false rows.down.items → IsRightOfCounter (any_problem p) rows
  counter_right ups downs = record { sums = none_over (any_problem p) (exact_any p) start starts rows ups downs }

  pub counter_told : AreLimits (any_problem p) start true rows.up.items → AreLimits (any_problem p) start false rows.down.items → (v : ℤ) × (p.start ≡ Counter v) × IsToldOfCounter (any_problem p) v rows
  counter_told ups downs = (start, starts, record { up = ups; down = downs })
