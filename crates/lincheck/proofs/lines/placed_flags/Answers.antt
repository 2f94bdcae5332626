use Rattle.std.proofs.Common.{◌≡◌, Some, get_or, arith}
use Rattle.std.specs.List.{slice_get}
use Rattle.std.proofs.lemmas.Option.{slice_get-get_or}
use Rattle.lin_object.specs.declared.reply.Reply.TheVariants.{Okay}
use Rattle.lin_object.specs.declared.reply.Reply.{Reply}
use Rattle.lin_history.specs.declared.locality.placed.Placed.{Placed}
use Rattle.lincheck.proofs.ReportLemmas.{call_within}
use Rattle.lincheck.proofs.lines.placed_flags.Goals as goal

pub index_mut-requires : goal.index_mut-requires
index_mut-requires c =
    let x : Placed Reply = get_or c.args.order.now c.loop-placed.placed-index (record { call = 0; reply = Okay }) in
    let there : slice_get c.args.order.now c.loop-placed.placed-index ≡ Some x = slice_get-get_or c.args.order.now c.loop-placed.placed-index _ c.loop-placed-test.true in
    let within = call_within c.args.history.now c.args.order.now c.loop-placed.placed-index x c.requires there in
    omega (arith, within, c.loop-placed.invariant.count)
