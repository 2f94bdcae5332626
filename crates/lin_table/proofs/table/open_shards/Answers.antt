use Rattle.std.proofs.Common.{rules}
use Rattle.lin_table.proofs.PartLemmas.{opens}
use Rattle.lin_table.proofs.table.open_shards.Goals as goal

pub new-requires : goal.new-requires
new-requires g c =
    rw (c.as_slice.ensures.value, c.in_ok-words.ensures.items_if_clones_equal (search rules), c.in_ok-homes.ensures)
    (opens g.O.State.PartialEq.eq (record { problem = c.args.problem; known = c.args.known; shards = c.args.shards; hands = c.args.hands }))
