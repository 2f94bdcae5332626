-- What contracts see of a board, and which seats are its own.
use Rattle.std.specs.Prelude.{◌≡◌, ℕ, ◌<◌, [], false}
use Rattle.atomic_table.specs.Seated.{TableId}
use Rattle.lin_board.specs.declared.rule.Plan.{Plan}
use Rattle.lin_board.specs.Rule.{plan_of}
use Rattle.lin_board.specs.Facts.{BoardFacts, SeatFacts}

-- the seat came with the board
abbrev pub IsSeatOf : BoardFacts → SeatFacts → Type 0
IsSeatOf b s = s.board ≡ b

-- a seat of the board that has done nothing
abbrev pub new_seat : BoardFacts → SeatFacts
new_seat b = record { board = b; claimed = []; found = []; told = []; ended = false }

-- the fields of a board: a table of two words and no slot, and the numbers that it was made with
pub record IsBoard (id : TableId) (key : Plan) (tasks seats : ℕ) : Type 0 where
  pub words : id.words ≡ 2
  pub slots : id.slots ≡ 0
  pub plan : key ≡ plan_of tasks seats
  pub some_seat : 0 < seats
