-- What a tally says of all seats of a board.
use Rattle.std.specs.Prelude.{◌≡◌, ◌≤◌, List, [], map, length, All, Contains, IsTrue, IfSome, IfNone}
use Rattle.std.specs.List.{Any}
use Rattle.lin_board.specs.declared.tally.Tally.{Tally}
use Rattle.lin_board.specs.Facts.{BoardFacts, SeatFacts}
use Rattle.lin_board.specs.Lists.Totals.{total}
use Rattle.lin_board.specs.Lists.Division.{Divides}

-- what a tally says of the seats of a board, all of which are there
pub record Tallies (board : BoardFacts) (seats : List SeatFacts) (tally : Tally) : Type 0 where
  -- each task below `claimed` was claimed by exactly one seat, once, and no other number was claimed
  pub divides : Divides tally.claimed (map (λ (s : SeatFacts). s.claimed) seats)
  -- `claimed` is the number of all claims
  pub count : total (λ (s : SeatFacts). length s.claimed) seats ≡ tally.claimed
  pub within : tally.claimed ≤ board.tasks
  -- all tasks are claimed where some seat was answered `None`
  pub all_claimed : Any (λ (s : SeatFacts). IsTrue s.ended) seats → tally.claimed ≡ board.tasks
  -- each seat claimed what it found
  pub found_claimed : All (λ (s : SeatFacts). All (Contains s.claimed) s.found) seats
  -- what a seat was told, some seat claimed and found
  pub told_found : All (λ (s : SeatFacts). All (λ x. Any (λ (other : SeatFacts). Contains other.claimed x × Contains other.found x) seats) s.told) seats
  -- `least` is the least number that any seat found, and `None` where none found any
  pub some_found : IfSome tally.least (λ m. Any (λ (s : SeatFacts). Contains s.found m) seats)
  pub least_found : IfSome tally.least (λ m. All (λ (s : SeatFacts). All (λ x. m ≤ x) s.found) seats)
  pub none_found : IfNone tally.least (All (λ (s : SeatFacts). s.found ≡ []) seats)
