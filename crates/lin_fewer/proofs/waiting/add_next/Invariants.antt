use Rattle.std.proofs.Common.{◌+◌, ◌-◌, ◌<◌, ◌≤◌, length}
use Rattle.lin_history.specs.Problems.Problem.{problem_of}
use Rattle.lin_fewer.specs.Fronts.{AreNextPending}
use Rattle.lin_fewer.proofs.waiting.add_next.Given as goal

abbrev pub invariant-loop-next : goal.invariant-loop-next
invariant-loop-next g l = (length l.next.items ≤ l.call → AreNextPending (problem_of g.O.SeqObject.after g.O.State.PartialEq.eq g.O.Reply.PartialEq.eq l.problem) l.next.items l.call) × (l.call < length l.next.items → AreNextPending (problem_of g.O.SeqObject.after g.O.State.PartialEq.eq g.O.Reply.PartialEq.eq l.problem) l.next.items (l.call + 1))

abbrev pub decreases-loop-next : goal.decreases-loop-next
decreases-loop-next g l = l.call + 1 - length l.next.items
