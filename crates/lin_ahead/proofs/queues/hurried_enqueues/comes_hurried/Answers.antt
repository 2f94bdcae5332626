use Rattle.std.proofs.Common.{refl, arith}
use Rattle.std.proofs.lemmas.Option.{slice_get_read}
use Rattle.lin_ahead.proofs.queues.hurried_enqueues.comes_hurried.Goals as goal

pub are_few_takers-requires : goal.are_few_takers-requires
are_few_takers-requires c = c.requires c.args.own c.index-rows-own.result (slice_get_read c.args.rows.now _ c.args.own c.index-rows-own.result refl (let w = c.if-own-rows.false in omega (arith, w)) c.index-rows-own.is)

pub are_more_out-requires-clause-first : goal.are_more_out-requires-clause-first
are_more_out-requires-clause-first c = c.requires c.args.hurry.first_row c.index-rows-hurry.result (slice_get_read c.args.rows.now _ c.args.hurry.first_row c.index-rows-hurry.result refl (let w = c.if-hurry-rows-2.false in omega (arith, w)) c.index-rows-hurry.is)

pub are_more_out-requires-clause-row : goal.are_more_out-requires-clause-row
are_more_out-requires-clause-row c = c.requires c.args.hurry.row c.index-rows-hurry-then-are_few_takers.result (slice_get_read c.args.rows.now _ c.args.hurry.row c.index-rows-hurry-then-are_few_takers.result refl (let w = c.if-hurry-rows.false in omega (arith, w)) c.index-rows-hurry-then-are_few_takers.is)
