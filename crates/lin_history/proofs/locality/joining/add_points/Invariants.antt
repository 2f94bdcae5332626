use Rattle.std.proofs.Common.{◌≡◌, ◌++◌, drop}
use Rattle.lin_history.specs.Locality.Points.{with_points}
use Rattle.lin_history.specs.Locality.RecordedWhole.{whole_of}
use Rattle.lin_history.proofs.locality.joining.add_points.Given as goal

abbrev pub invariant-loop-one : goal.invariant-loop-one
invariant-loop-one l = l.pointed.items ++ with_points (whole_of l.history) l.point (drop l.one-index l.placed) ≡ l.fn.pointed.items ++ with_points (whole_of l.history) 0 l.placed
