use Rattle.std.proofs.Common.{ℕ, ◌<◌, ◌≤◌}
use Rattle.lin_history.specs.Problems.Problem.{problem_of}
use Rattle.lin_fewer.specs.Nodes.{IsMoreOf, IsCoveredAt}
use Rattle.lin_fewer.proofs.pending_calls.add_pending.Given as goal

abbrev pub invariant-calls : goal.invariant-calls
invariant-calls g l = record {
  more : IsMoreOf (problem_of g.O.SeqObject.after g.O.State.PartialEq.eq g.O.Reply.PartialEq.eq l.search) l.fn.nodes.items l.nodes.items l.index;
  covered : (d : ℕ) → d < l.call → IsCoveredAt (problem_of g.O.SeqObject.after g.O.State.PartialEq.eq g.O.Reply.PartialEq.eq l.search) l.nodes.items l.index d;
  turn : l.turn ≤ l.call;
}
