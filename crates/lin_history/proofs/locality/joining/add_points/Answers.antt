use Rattle.std.proofs.Common.{rules}
use Rattle.lin_history.specs.Recorder.Views.{call_view}
use Rattle.lin_history.specs.Locality.RecordedWhole.{whole_of}
use Rattle.lin_history.proofs.VerifierLemmas.{placed_at, placed_there, stands_there}
use Rattle.lin_history.proofs.JoinLemmas.PointLemmas.{points_next, points_done}
use Rattle.lin_history.proofs.locality.joining.add_points.Goals as goal

pub call-requires : goal.call-requires
call-requires c =
    c.requires _ (stands_there (whole_of c.args.history.now) c.args.placed.now c.loop-one.one-index (placed_at c.args.placed.now c.loop-one.one-index) (placed_there c.args.placed.now c.loop-one.one-index c.loop-one-test.true))

pub loop-one-preserved : goal.loop-one-preserved
loop-one-preserved c =
    points_next (whole_of c.args.history.now) c.loop-one.point c.max-point.result c.args.placed.now c.loop-one.one-index (placed_at c.args.placed.now c.loop-one.one-index) (call_view c.call.result.now) c.loop-one.pointed.items c.push.new.self.items _
    (placed_there c.args.placed.now c.loop-one.one-index c.loop-one-test.true) c.call.ensures.call (search rules) c.in_ok-push.ensures.items c.loop-one.invariant

pub returns : goal.returns
returns c = points_done (whole_of c.args.history.now) c.loop-one.point c.args.placed.now c.loop-one.one-index c.loop-one.pointed.items _ c.loop-one-test.false c.loop-one.invariant
