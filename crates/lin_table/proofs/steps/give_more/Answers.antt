use Rattle.std.proofs.Common.{ap, ◌∙◌}
use Rattle.atomic_table.specs.Table.{rest}
use Rattle.lin_table.proofs.StepLemmas.{gives_more}
use Rattle.lin_table.proofs.steps.give_more.Goals as goal

pub store-requires : goal.store-requires
store-requires g c = (c.requires.table.0, c.requires.table.1, gives_more g.O.State.PartialEq.eq c.args.shards.now.key _ _ _ c.args.shard c.requires.table.2 c.requires.out)

pub returns-clause-me : goal.returns-clause-me
returns-clause-me g c = λ k. (c.store.ensures.2.0 k, (c.store.ensures.2.1 ∙ ap rest c.requires.out.holds) k)
