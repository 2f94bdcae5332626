use Rattle.std.proofs.Common.{◌≡◌, ℕ, ◌<◌}
use Rattle.lin_history.specs.Problems.Problem.{problem_of}
use Rattle.lin_fewer.specs.Nodes.{NoneBegins}
use Rattle.lin_fewer.proofs.least.least_call.Given as goal

abbrev pub invariant-loop-call : goal.invariant-loop-call
invariant-loop-call g l = record {
  search : l.search ≡ l.fn.search;
  stop : g.S.Stop.follows l.fn.stop l.stop;
  none : (d : ℕ) → d < l.call → NoneBegins (problem_of g.O.SeqObject.after g.O.State.PartialEq.eq g.O.Reply.PartialEq.eq l.fn.search) l.config.lifted l.config.state d;
}
