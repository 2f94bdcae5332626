use Rattle.std.proofs.Common.{refl, arith}
use Rattle.std.proofs.lemmas.Option.{slice_get_read}
use Rattle.lin_ahead.proofs.queues.early_enqueues.comes_too_early.Goals as goal

pub is_too_early-requires-clause-own : goal.is_too_early-requires-clause-own
is_too_early-requires-clause-own c = c.requires c.args.wait.own c.index-rows-wait.result (slice_get_read c.args.rows.now _ c.args.wait.own c.index-rows-wait.result refl (let w = c.if-wait-rows.false in omega (arith, w)) c.index-rows-wait.is)

pub is_too_early-requires-clause-other : goal.is_too_early-requires-clause-other
is_too_early-requires-clause-other c = c.requires c.in-Taken.other c.index-rows-other.result (slice_get_read c.args.rows.now _ c.in-Taken.other c.index-rows-other.result refl (let w = c.if-other-rows.true in omega (arith, w)) c.index-rows-other.is)

pub comes_before_empty-requires : goal.comes_before_empty-requires
comes_before_empty-requires c = c.requires c.args.wait.own c.index-rows-wait.result (slice_get_read c.args.rows.now _ c.args.wait.own c.index-rows-wait.result refl (let w = c.if-wait-rows.false in omega (arith, w)) c.index-rows-wait.is)
