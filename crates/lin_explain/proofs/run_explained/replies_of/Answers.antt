use Rattle.std.proofs.lemmas.Option.{slice_get-get_or}
use Rattle.lin_object.specs.declared.reply.Reply.TheVariants.{Okay}
use Rattle.lin_explain.proofs.RunLemmas.{known_at}
use Rattle.lin_explain.proofs.run_explained.replies_of.Goals as goal

pub call-requires : goal.call-requires
call-requires c = known_at c.args.history.now c.args.run.now c.loop-placed.placed-index _ c.requires (slice_get-get_or c.args.run.now c.loop-placed.placed-index (record { call = 0; reply = Okay }) c.loop-placed-test.true)
