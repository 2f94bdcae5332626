-- What contracts see of a seat, by its view.
use Rattle.std.specs.Prelude.{◌≡◌, ℕ, Bool, [], length, All, Contains}
use Rattle.atomic_table.specs.Seated.{TableId}
use Rattle.lin_board.specs.declared.rule.View.{View}
use Rattle.lin_board.specs.Facts.{SeatFacts}
use Rattle.lin_board.specs.Steps.{Holder}
use Rattle.lin_board.specs.Lists.Totals.{one_if}

-- the facts of the seat that has this view at this table
abbrev pub facts_of : TableId → View → Bool → SeatFacts
facts_of id v ended = record { board = record { id = id; tasks = v.plan.tasks; seats = v.plan.seats }; claimed = v.claimed; found = v.found; told = v.told; ended = ended }

-- the fields of a seat: its view has one part, an end where it ended, as many claims as it counts, and findings among its claims; it holds no slot
pub record IsOneSeat (holder : Holder) (claims : ℕ) (ended : Bool) : Type 0 where
  pub parts : holder.0.parts ≡ 1
  pub ends : holder.0.ends ≡ one_if ended
  pub count : claims ≡ length holder.0.claimed
  pub among : All (Contains holder.0.claimed) holder.0.found
  pub slots : holder.1 ≡ []
