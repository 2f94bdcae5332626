use Rattle.std.proofs.Common.{take}
use Rattle.lin_history.specs.Locality.Points.{AreOrders}
use Rattle.lin_history.specs.Locality.RecordedWhole.{whole_of}
use Rattle.lin_history.proofs.locality.joining.add_orders.Given as goal

abbrev pub invariant-loop-object : goal.invariant-loop-object
invariant-loop-object l = AreOrders (whole_of l.history) (take l.object l.orders) l.pointed.items
