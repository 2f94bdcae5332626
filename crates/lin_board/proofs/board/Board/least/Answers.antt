use Rattle.std.proofs.Common.{arith}
use Rattle.lin_board.proofs.StepLemmas.{least_allowed}
use Rattle.lin_board.proofs.SeatLemmas.{looked_seat}
use Rattle.lin_board.proofs.board.Board.least.Goals as goal

pub read_least-task-requires-clause-allowed : goal.read_least-task-requires-clause-allowed
read_least-task-requires-clause-allowed c =
    let parts = c.seat.invariant.parts in least_allowed c.self.inside.table.shared.key _ _ _ (omega arith)

pub invariant_of-seat : goal.invariant_of-seat
invariant_of-seat c = looked_seat _ _ _ _ _ c.read_least-task.ensures.tells c.seat.invariant
