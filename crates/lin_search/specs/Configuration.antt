-- Configurations (Lowe 2017), as contracts see them.
use Rattle.std.specs.Prelude.{Bool, ◌&&◌, List}
use lib.Pointwise.{pointwise}
use mathlib.Core.Bool.{beq}

-- A configuration: the set of the calls that are linearized, or lifted, and the state that they lead to.
pub record Configuration (State : Type 0) : Type 0 where
  pub lifted : List Bool
  pub state : State

-- Two configurations are the same: their sets are, and their states are equal by the state's own `Eq`.
abbrev pub same_configuration : {State : Type 0} → (State → State → Bool) → Configuration State → Configuration State → Bool
same_configuration same a b = pointwise beq a.lifted b.lifted && same a.state b.state
