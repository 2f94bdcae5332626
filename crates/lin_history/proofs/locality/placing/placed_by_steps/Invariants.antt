use Rattle.std.proofs.Common.{drop}
use Rattle.lin_object.specs.contracts.state.ObjStatePartialEq.TheImpl.{eq-value as state_eq}
use Rattle.lin_history.specs.Locality.RecordedWhole.{whole_of, start_at}
use Rattle.lin_history.proofs.JoinLemmas.PlacementLemmas.{IsPlacing}
use Rattle.lin_history.proofs.locality.placing.placed_by_steps.Given as goal

abbrev pub invariant-loop-number : goal.invariant-loop-number
invariant-loop-number l = IsPlacing state_eq.it (whole_of l.history) l.object (start_at l.history l.object) l.calls l.placed.items l.state (drop l.number-index l.calls)
