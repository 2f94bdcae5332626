use Rattle.lin_search.specs.CallSetLemmas.{flags_same}
use Rattle.lin_fewer.proofs.any_adds.is_no_more.Goals as goal

pub returns-clause-same : goal.returns-clause-same
returns-clause-same c = λ yes. flags_same c.args.a.now.lifted c.args.b.now.lifted (let e = c.eq.ensures in cc)
