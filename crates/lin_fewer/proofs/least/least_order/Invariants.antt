use Rattle.std.proofs.Common.{◌≡◌, ℕ, List, ◌++◌}
use Rattle.lin_history.specs.Problems.Problem.{problem_of}
use Rattle.lin_history.specs.Problems.Lists.{IsLeast}
use Rattle.lin_history.specs.Problems.Continuations.{IsCompletion}
use Rattle.lin_history.specs.Problems.Configurations.{IsReachable}
use Rattle.lin_fewer.specs.Fronts.{HasCompletedBelow}
use Rattle.lin_fewer.proofs.least.least_order.Given as goal

abbrev pub invariant-calls : goal.invariant-calls
invariant-calls g l = record {
  search : l.search ≡ l.fn.search;
  stop : g.S.Stop.follows l.fn.stop l.stop;
  reachable : IsReachable (problem_of g.O.SeqObject.after g.O.State.PartialEq.eq g.O.Reply.PartialEq.eq l.fn.search) l.config.lifted l.config.state;
  below : HasCompletedBelow (problem_of g.O.SeqObject.after g.O.State.PartialEq.eq g.O.Reply.PartialEq.eq l.fn.search) l.config.lifted l.from;
  rest : (m : List ℕ) → IsLeast (IsCompletion (problem_of g.O.SeqObject.after g.O.State.PartialEq.eq g.O.Reply.PartialEq.eq l.fn.search) l.config.lifted l.config.state) m → IsLeast (IsCompletion (problem_of g.O.SeqObject.after g.O.State.PartialEq.eq g.O.Reply.PartialEq.eq l.fn.search) l.fn.root.lifted l.fn.root.state) (l.calls.items ++ m);
}
