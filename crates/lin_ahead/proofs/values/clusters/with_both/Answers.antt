use Rattle.lin_ahead.proofs.values.NumberLemmas.{widened_then}
use Rattle.lin_ahead.proofs.values.clusters.with_both.Goals as goal

pub returns : goal.returns
returns c = widened_then c.args.calls.now c.args.owner c.args.call c.args.numbers c.with_call.result c.with_call-2.result c.with_call.ensures c.with_call-2.ensures
