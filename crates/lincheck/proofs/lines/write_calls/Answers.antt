use Rattle.std.proofs.Common.{◌≡◌, Some, get_or}
use Rattle.std.specs.List.{slice_get}
use Rattle.std.proofs.lemmas.Option.{slice_get-get_or}
use Rattle.lin_object.specs.declared.reply.Reply.TheVariants.{Okay}
use Rattle.lin_object.specs.declared.reply.Reply.{Reply}
use Rattle.lin_history.specs.declared.locality.placed.Placed.{Placed}
use Rattle.lincheck.proofs.ReportLemmas.{call_within}
use Rattle.lincheck.proofs.lines.write_calls.Goals as goal

pub write_call-requires : goal.write_call-requires
write_call-requires c =
    let x : Placed Reply = get_or c.args.order.now c.loop-index.index (record { call = 0; reply = Okay }) in
    let there : slice_get c.args.order.now c.loop-index.index ≡ Some x = slice_get-get_or c.args.order.now c.loop-index.index _ c.loop-index-test.true in
    call_within c.args.history.now c.args.order.now c.loop-index.index x c.requires there
