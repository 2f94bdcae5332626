use Rattle.std.proofs.Common.{◌≡◌, ◌<◌, vec_len, All}
use Rattle.lin_board.specs.Facts.{SeatFacts}
use Rattle.lin_board.specs.Gather.{Gathered}
use Rattle.lin_board.proofs.gather.gather.Given as goal

abbrev pub decreases-loop-seat : goal.decreases-loop-seat
decreases-loop-seat l = vec_len l.seats

abbrev pub invariant-loop-seat : goal.invariant-loop-seat
invariant-loop-seat l = record {
  same : l.first.table_id ≡ l.initial.first.table_id;
  slots : l.first.me.1 ≡ l.initial.first.me.1;
  each : All (λ (s : SeatFacts). s.board.id ≡ l.initial.first.table_id) l.seats.items;
  gathered : Gathered l.initial.first.me.0 l.initial.seats.items l.first.me.0 l.seats.items;
  part : 0 < l.first.me.0.parts;
}
