use Rattle.std.proofs.Common.{[]}
use Rattle.lin_table.proofs.StepLemmas.{gives_back}
use Rattle.lin_table.proofs.steps.give_back.Goals as goal

pub store-requires : goal.store-requires
store-requires g c =
    let o = c.requires.out in
    (c.requires.table.0, c.requires.table.1, gives_back g.O.State.PartialEq.eq c.args.shards.now.key _ _ _ c.args.shard o.0 [] c.requires.table.2 o.1 o.2 o.3)
