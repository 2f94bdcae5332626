use Rattle.std.proofs.Common.{◌≡◌, Some}
use Rattle.std.specs.Prelude.{slice_get}
use Rattle.lin_history.specs.Problems.Problem.{problem_of}
use Rattle.lin_fewer.specs.Nodes.{Node, IsSearch}
use Rattle.lin_fewer.proofs.bearing.bears.Given as goal

abbrev pub invariant-loop : goal.invariant-loop
invariant-loop g l = record {
  search : l.search ≡ l.fn.search;
  is : IsSearch (problem_of g.O.SeqObject.after g.O.State.PartialEq.eq g.O.Reply.PartialEq.eq l.fn.search) l.nodes.items l.place.base l.place.index l.place.next;
  stop : g.S.Stop.follows l.fn.stop l.stop;
  first : (x : Node g.row.O-State.Denot) × (slice_get l.nodes.items 0 ≡ Some x) × (x.config ≡ l.fn.config);
}
