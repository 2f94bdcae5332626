-- What contracts see of a board and of a seat.
use Rattle.std.specs.Prelude.{ℕ, Bool, List}
use Rattle.atomic_table.specs.Seated.{TableId}

-- which board it is, and its numbers of tasks and of seats
pub record BoardFacts : Type 0 where
  pub id : TableId
  pub tasks : ℕ
  pub seats : ℕ

-- the board that a seat came with, the numbers that it claimed, found and was told, each in order, and whether a claim was answered `None`
pub record SeatFacts : Type 0 where
  pub board : BoardFacts
  pub claimed : List ℕ
  pub found : List ℕ
  pub told : List ℕ
  pub ended : Bool
