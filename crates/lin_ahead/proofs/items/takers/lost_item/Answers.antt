use Rattle.std.proofs.Common.{sym, ◌∙◌, ap}
use Rattle.lin_ahead.specs.Items.Takers.{queue_of}
use Rattle.lin_ahead.specs.declared.items.item_calls.ItemCalls.{ItemCalls}
use Rattle.lin_ahead.proofs.items.TakerLemmas.{lost_is}
use Rattle.lin_ahead.proofs.items.takers.lost_item.Goals as goal

pub returns-else-told_of-clause-lost : goal.returns-else-told_of-clause-lost
returns-else-told_of-clause-lost c =
    lost_is (queue_of c.args.calls.now) _ (ap (λ (t : ItemCalls). t.taken) (sym (c.requires.0 _) ∙ sym c.told_of.ensures) ∙ c.if-told_of.false)
