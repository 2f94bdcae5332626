use Rattle.std.proofs.lemmas.Option.{slice_get_read}
use Rattle.std.proofs.Common.{refl}
use Rattle.lin_fewer.proofs.any_adds.has_no_more.Goals as goal

pub returns-then-is_no_more : goal.returns-then-is_no_more
returns-then-is_no_more c = λ yes. (c.loop-i.i, c.index-layer-i.result, slice_get_read c.args.layer.now _ c.loop-i.i c.index-layer-i.result refl c.loop-i-test.true c.index-layer-i.is, c.is_no_more.ensures.same c.if-is_no_more.true, c.is_no_more.ensures.less c.if-is_no_more.true)
