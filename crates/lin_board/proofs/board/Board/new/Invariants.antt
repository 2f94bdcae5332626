use Rattle.std.proofs.Common.{◌≡◌, ◌+◌, ◌-◌, ◌≤◌, [], false, vec_len, vec_capacity, All}
use Rattle.lin_board.specs.Rule.{plan_of, view}
use Rattle.lin_board.specs.Facts.{SeatFacts}
use Rattle.lin_board.specs.Seat.{facts_of}
use Rattle.lin_board.proofs.board.Board.new.Given as goal

-- the first seat still has the parts of the seats that are not made yet
abbrev pub invariant-loop : goal.invariant-loop
invariant-loop l = record {
  same : l.first.table_id ≡ l.initial.table.shared.table_id;
  me : l.first.me ≡ (view (plan_of l.initial.tasks l.initial.seats) (l.initial.seats + 1 - l.counter) 0 [] [] [], []);
  len : vec_len l.all + 1 ≡ l.counter;
  room : l.initial.seats ≤ vec_capacity l.all;
  each : All (λ (s : SeatFacts). s ≡ facts_of l.initial.table.shared.table_id (view (plan_of l.initial.tasks l.initial.seats) 1 0 [] [] []) false) l.all.items;
}
