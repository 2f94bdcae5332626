use Rattle.lin_laws.specs.FirstItemLemmas.{first_none}
use Rattle.lin_lost.proofs.rest.is_empty.Goals as goal

pub returns : goal.returns
returns c = first_none c.args.items.now c.first.result c.is_none.result c.first.ensures c.is_none.ensures
