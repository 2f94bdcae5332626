use Rattle.std.proofs.Common.{◌≡◌, ◌+◌, ◌≤◌, [], vec_capacity, vec_len, All}
use Rattle.lin_board.specs.Board.{IsSeatOf}
use Rattle.lin_board.specs.Facts.{BoardFacts}
use Rattle.lin_table.specs.Hand.{IsHandOf, TableFacts}
use Rattle.lin_workers.proofs.workers.sharing.make_workers.Given as goal

abbrev pub decreases-loop-seat : goal.decreases-loop-seat
decreases-loop-seat g l = vec_len l.seats

abbrev pub invariant-loop-seat : goal.invariant-loop-seat
invariant-loop-seat g l = record {
  room : vec_len l.workers + vec_len l.seats ≤ vec_capacity l.workers;
  enough : vec_len l.seats ≤ vec_len l.hands;
  count : vec_len l.hands + vec_len l.workers ≡ vec_len l.fn.hands;
  capacity : vec_capacity l.hands ≡ vec_capacity l.fn.hands;
  hands : (table : TableFacts g.row.O.Denot g.row.O-State.Denot g.row.O-Op.Denot g.row.O-Reply.Denot) → All (IsHandOf table) l.fn.hands.items → All (IsHandOf table) l.hands.items;
  seats : (board : BoardFacts) → All (IsSeatOf board) l.fn.seats.items → All (IsSeatOf board) l.seats.items;
  workers : (table : TableFacts g.row.O.Denot g.row.O-State.Denot g.row.O-Op.Denot g.row.O-Reply.Denot) (board : BoardFacts) → All (IsHandOf table) l.fn.hands.items → All (IsSeatOf board) l.fn.seats.items → All (λ worker. IsHandOf table worker.hand × IsSeatOf board worker.seat × (worker.values.items ≡ [])) l.workers.items;
}
