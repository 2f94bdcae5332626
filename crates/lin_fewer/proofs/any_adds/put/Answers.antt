use Rattle.lin_fewer.proofs.AnyAddsLemmas.{as_much_pushed, no_more_last, beginnings_pushed}
use Rattle.lin_fewer.proofs.any_adds.put.Goals as goal

pub returns-clause-layer : goal.returns-clause-layer
returns-clause-layer c = rw c.in_ok-push.ensures.items (beginnings_pushed c.args.problem.now c.args.layer.now.items c.args.beginning c.requires.layer c.requires.is)

pub returns-clause-more : goal.returns-clause-more
returns-clause-more c = rw c.in_ok-push.ensures.items (as_much_pushed c.args.layer.now.items c.args.beginning)

pub returns-clause-there : goal.returns-clause-there
returns-clause-there c = rw c.in_ok-push.ensures.items (no_more_last c.args.layer.now.items c.args.beginning)
