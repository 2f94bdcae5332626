use Rattle.lin_parts.specs.ListLemmas.{in_at}
use Rattle.lin_parts.proofs.part.some_calls.Goals as goal

pub call-requires : goal.call-requires
call-requires c = c.requires _ (in_at c.args.kept.now c.loop-call.call-index c.loop-call-test.true)
