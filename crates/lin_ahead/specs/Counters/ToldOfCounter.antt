-- What is told ahead of a counter's problem: the limits of its completed gets (this project's own).
use Rattle.std.specs.Prelude.{ℤ, true, false}
use Rattle.lin_object.specs.declared.op.Op.{Op}
use Rattle.lin_object.specs.declared.reply.Reply.{Reply}
use Rattle.lin_object.specs.declared.state.ObjState.{ObjState}
use Rattle.lin_history.specs.Problems.Problem.{Problem}
use Rattle.lin_ahead.specs.declared.counters.rows.SumRows.{SumRows}
use Rattle.lin_ahead.specs.Counters.Sums.{AreLimits}

-- The limits are told of each completed get, upwards and downwards.
pub record IsToldOfCounter (p : Problem ObjState Op Reply) (start : ℤ) (rows : SumRows) : Type 0 where
  pub up : AreLimits p start true rows.up.items
  pub down : AreLimits p start false rows.down.items
