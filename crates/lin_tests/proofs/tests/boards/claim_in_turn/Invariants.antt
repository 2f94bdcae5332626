use Rattle.std.proofs.Common.{All}
use Rattle.lin_board.specs.Board.{IsSeatOf}
use Rattle.lin_tests.proofs.tests.boards.claim_in_turn.Given as goal

abbrev pub invariant-loop-turn : goal.invariant-loop-turn
invariant-loop-turn l = All (IsSeatOf l.board) l.waiting.items × All (IsSeatOf l.board) l.done.items
