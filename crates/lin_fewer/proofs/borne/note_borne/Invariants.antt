use Rattle.std.proofs.Common.{◌<◌, length, ◌≡◌}
use Rattle.lin_history.specs.Problems.Problem.{problem_of}
use Rattle.lin_fewer.specs.Knowledge.{IsBorne}
use Rattle.lin_fewer.specs.Nodes.{IsAt}
use Rattle.lin_fewer.proofs.borne.note_borne.Given as goal

abbrev pub invariant-loop-k : goal.invariant-loop-k
invariant-loop-k g l = record {
  search : l.search ≡ l.fn.search;
  within : l.k < length l.nodes;
  borne : IsAt l.nodes l.k (λ x. IsBorne (problem_of g.O.SeqObject.after g.O.State.PartialEq.eq g.O.Reply.PartialEq.eq l.fn.search) x.config.lifted x.config.state l.borne);
}

abbrev pub decreases-loop-k : goal.decreases-loop-k
decreases-loop-k g l = l.k
