use Rattle.std.proofs.Common.{map, arith}
use Rattle.lin_object.specs.contracts.state.ObjStatePartialEq.TheImpl.{eq-value as state_eq}
use Rattle.lin_history.specs.Locality.Points.{placed_of}
use Rattle.lin_history.specs.Locality.RecordedWhole.{whole_of}
use Rattle.lin_history.specs.Locality.LocalityLemmas.{joined_is_whole}
use Rattle.lin_history.proofs.JoinLemmas.PointLemmas.{joined_sorted, order_there}
use Rattle.lin_history.proofs.locality.joining.join.Goals as goal

pub returns-clause-joined : goal.returns-clause-joined
returns-clause-joined c =
    rw (c.new.ensures, c.in_ok-placed.ensures, c.as_slice.ensures.value)
    (joined_sorted (whole_of c.args.history.now) c.args.orders.now c.add_orders.new.pointed.items c.sort_by_point.new.pointed.items c.in_ok-add_orders.ensures c.in_ok-sort_by_point.ensures.rise c.sort_by_point.ensures.stable)

pub returns-clause-whole : goal.returns-clause-whole
returns-clause-whole c =
    rw (c.new.ensures, c.in_ok-placed.ensures, c.as_slice.ensures.value)
    (joined_is_whole state_eq.it (whole_of c.args.history.now) c.args.orders.now (map placed_of c.sort_by_point.new.pointed.items)
    (joined_sorted (whole_of c.args.history.now) c.args.orders.now c.add_orders.new.pointed.items c.sort_by_point.new.pointed.items c.in_ok-add_orders.ensures c.in_ok-sort_by_point.ensures.rise c.sort_by_point.ensures.stable)
    c.requires.each
    (λ a call there. order_there c.args.orders.now call.object (let within = c.call_count.ensures.history.1.declared a call there in omega (arith, within, c.requires.count))))
