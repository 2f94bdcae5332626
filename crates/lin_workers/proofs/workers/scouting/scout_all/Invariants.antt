use Rattle.std.proofs.Common.{◌≡◌}
use Rattle.lin_board.specs.Board.{IsSeatOf}
use Rattle.lin_table.specs.Hand.{IsHandOf}
use Rattle.lin_workers.specs.Heard.{HasHeard}
use Rattle.lin_workers.proofs.workers.scouting.scout_all.Given as goal

abbrev pub invariant-loop-number : goal.invariant-loop-number
invariant-loop-number g l = record {
  values : l.worker.values ≡ l.fn.worker.values;
  hand : IsHandOf l.job.table.now l.worker.hand;
  seat : IsSeatOf l.job.board.now l.worker.seat;
  heard : HasHeard l.fn.worker.seat l.worker.seat;
}
