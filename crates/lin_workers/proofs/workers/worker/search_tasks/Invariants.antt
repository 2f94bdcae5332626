use Rattle.std.proofs.Common.{◌-◌, length}
use Rattle.lin_history.specs.Problems.Problem.{problem_of}
use Rattle.lin_board.specs.Board.{IsSeatOf}
use Rattle.lin_table.specs.Hand.{IsHandOf}
use Rattle.lin_table.specs.Shared.{HasGrown}
use Rattle.lin_workers.specs.Values.{HasBrought}
use Rattle.lin_workers.proofs.workers.worker.search_tasks.Given as goal

abbrev pub decreases-loop-number : goal.decreases-loop-number
decreases-loop-number g l = l.job.board.now.tasks - length l.worker.seat.claimed

abbrev pub invariant-loop-number : goal.invariant-loop-number
invariant-loop-number g l = record {
  hand : IsHandOf l.job.table.now l.worker.hand;
  grown : HasGrown l.fn.worker.hand l.worker.hand;
  seat : IsSeatOf l.job.board.now l.worker.seat;
  brought : HasBrought (problem_of g.O.SeqObject.after g.O.State.PartialEq.eq g.O.Reply.PartialEq.eq l.job.problem.now) l.job.tasks.now l.job.bounds.now.limit l.fn.worker.seat l.worker.seat l.worker.values.items;
}
