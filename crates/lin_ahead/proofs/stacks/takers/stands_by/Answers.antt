use Rattle.std.proofs.Common.{rules}
use Rattle.lin_ahead.specs.Items.Takers.{queue_of}
use Rattle.lin_ahead.proofs.stacks.PopLemmas.{stands_by_is}
use Rattle.lin_ahead.proofs.stacks.takers.stands_by.Goals as goal

pub returns-in-Some-2 : goal.returns-in-Some-2
returns-in-Some-2 c = λ yes.
    stands_by_is (queue_of c.args.calls.now) c.args.after.now.config.now.lifted c.args.after.now.call c.args.after.now.items.now c.args.gone.now _ c.args.finding.finder.taker c.args.finding.until.taker c.in-Some.item _ _ c.is_left.result c.has.result c.is_left.ensures (search rules) c.in-Some.ensures c.has.ensures (search rules) (search rules) (search rules) (rw c.in-Some-2.is at c.in_ok-_above.ensures)
