use Rattle.std.proofs.Common.{refl, arith}
use Rattle.std.proofs.lemmas.Option.{slice_get_read}
use Rattle.lin_ahead.proofs.queues.lacking_enqueues.lacks_enqueues.Goals as goal

pub lacks-requires : goal.lacks-requires
lacks-requires c = c.requires c.args.lack.row c.index-rows-lack.result (slice_get_read c.args.rows.now _ c.args.lack.row c.index-rows-lack.result refl (let w = c.if-lack-rows.true in omega (arith, w)) c.index-rows-lack.is)
