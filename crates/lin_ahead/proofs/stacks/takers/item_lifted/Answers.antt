use Rattle.std.proofs.Common.{sym, ◌∙◌, ap, rules}
use Rattle.lin_ahead.specs.Items.ItemCalls.{goes_in_once}
use Rattle.lin_ahead.specs.Items.Takers.{queue_of}
use Rattle.lin_ahead.specs.declared.items.item_calls.ItemCalls.{ItemCalls}
use Rattle.lin_ahead.proofs.stacks.PopLemmas.{took_lifted_is}
use Rattle.lin_ahead.proofs.stacks.takers.item_lifted.Goals as goal

pub returns-then-goes_in_once : goal.returns-then-goes_in_once
returns-then-goes_in_once c =
    took_lifted_is (queue_of c.args.calls.now) c.args.after.now.config.now.lifted c.args.after.now.call c.args.wanting.put c.args.wanting.taker c.in_ok-put.put c.in_ok-taken.taken _ _ c.in_ok-put.ensures c.in_ok-taken.ensures (search rules) (search rules) (search rules) (sym c.is_left.ensures ∙ c.if-not-is_left.true) (ap (λ (t : ItemCalls). goes_in_once t.putters) (sym (c.requires.0 _) ∙ sym c.told_of.ensures) ∙ sym c.goes_in_once.ensures ∙ c.if-goes_in_once.true)
