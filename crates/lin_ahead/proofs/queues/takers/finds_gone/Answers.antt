use Rattle.std.proofs.Common.{sym, ◌∙◌, ap, rules}
use Rattle.lin_ahead.specs.Items.Takers.{queue_of}
use Rattle.lin_ahead.specs.Items.ItemCalls.{goes_in_once}
use Rattle.lin_ahead.specs.declared.items.item_calls.ItemCalls.{ItemCalls}
use Rattle.lin_ahead.proofs.items.TakerLemmas.{finds_is}
use Rattle.lin_ahead.proofs.queues.takers.finds_gone.Goals as goal

pub returns : goal.returns
returns c = λ once.
    finds_is (queue_of c.args.calls.now) c.args.items.now c.args.wanting.put c.args.wanting.taker c.in-Some.put c.in-Some-item_taken.taken _ _ c.in-Some.ensures c.in-Some-item_taken.ensures (search rules) (search rules) c.has.ensures c.if-has.false (ap (λ (t : ItemCalls). goes_in_once t.putters) (sym (c.requires.0 _) ∙ sym c.told_of.ensures) ∙ sym c.goes_in_once.ensures ∙ once)
