use Rattle.std.proofs.Common.{◌≡◌, map, take}
use Rattle.lin_history.specs.Locality.Points.{placed_of}
use Rattle.lin_history.proofs.locality.joining.without_points.Given as goal

abbrev pub invariant-loop-one : goal.invariant-loop-one
invariant-loop-one l = l.placed.items ≡ map placed_of (take l.one-index l.pointed)
