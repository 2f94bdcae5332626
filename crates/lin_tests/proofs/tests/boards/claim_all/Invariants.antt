use Rattle.std.proofs.Common.{◌-◌, length}
use Rattle.lin_board.specs.Board.{IsSeatOf}
use Rattle.lin_tests.proofs.tests.boards.claim_all.Given as goal

abbrev pub invariant-loop-task : goal.invariant-loop-task
invariant-loop-task l = IsSeatOf l.board l.seat

abbrev pub decreases-loop-task : goal.decreases-loop-task
decreases-loop-task l = l.board.tasks - length l.seat.claimed
