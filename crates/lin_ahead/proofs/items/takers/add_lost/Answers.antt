use Rattle.std.proofs.Common.{rules}
use Rattle.lin_ahead.specs.Items.Takers.{queue_of}
use Rattle.lin_ahead.proofs.items.TakerLemmas.{more_lost}
use Rattle.lin_ahead.proofs.items.takers.add_lost.Goals as goal

pub returns-in_ok-push : goal.returns-in_ok-push
returns-in_ok-push c =
    more_lost (queue_of c.args.calls.now) c.args.after.now.config.now.lifted c.args.after.now.call c.args.after.now.items.now c.args.other _ _ c.in-Some.item _ _ c.requires.found c.in_ok-push.ensures.items (rw c.as_slice.ensures.value at c.is_among.ensures) c.if-not-is_among.true (search rules) c.in-Some.ensures.lost (c.goes_before.ensures c.if-goes_before.true)
