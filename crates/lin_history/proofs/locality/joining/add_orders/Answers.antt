use Rattle.std.proofs.Common.{refl}
use Rattle.std.proofs.lemmas.Option.{slice_get_read}
use Rattle.lin_object.specs.contracts.state.ObjStatePartialEq.TheImpl.{eq-value as state_eq}
use Rattle.lin_history.specs.Locality.RecordedWhole.{whole_of}
use Rattle.lin_history.proofs.JoinLemmas.PointLemmas.{orders_none, orders_next, placed_on, placed_known}
use Rattle.lin_history.proofs.locality.joining.add_orders.Goals as goal

pub place_at-requires-clause-legal : goal.place_at-requires-clause-legal
place_at-requires-clause-legal c =
    (c.requires.each c.loop-object.object c.index-orders-object.result (slice_get_read c.args.orders.now _ c.loop-object.object c.index-orders-object.result refl c.loop-object-test.true c.index-orders-object.is)).continuation.legal

pub add_points-requires : goal.add_points-requires
add_points-requires c =
    let lin = c.requires.each c.loop-object.object c.index-orders-object.result (slice_get_read c.args.orders.now _ c.loop-object.object c.index-orders-object.result refl c.loop-object-test.true c.index-orders-object.is) in
    rw c.as_slice.ensures.value (placed_known (whole_of c.args.history.now) state_eq.it c.loop-object.object c.index-orders-object.result c.in_ok-placed.placed.items lin c.in_ok-placed.ensures)

pub loop-object-init : goal.loop-object-init
loop-object-init c = rw c.requires.none (orders_none (whole_of c.args.history.now))

pub loop-object-preserved : goal.loop-object-preserved
loop-object-preserved c =
    let there = slice_get_read c.args.orders.now _ c.loop-object.object c.index-orders-object.result refl c.loop-object-test.true c.index-orders-object.is in
    let lin = c.requires.each c.loop-object.object c.index-orders-object.result there in
    orders_next (whole_of c.args.history.now) c.args.orders.now c.loop-object.pointed.items c.add_points.new.pointed.items c.loop-object.object c.index-orders-object.result c.in_ok-placed.placed.items there c.loop-object.invariant c.in_ok-placed.ensures
    (placed_on (whole_of c.args.history.now) state_eq.it c.loop-object.object c.index-orders-object.result c.in_ok-placed.placed.items lin c.in_ok-placed.ensures) (rw c.as_slice.ensures.value at c.in_ok-add_points.ensures)
