use Rattle.std.proofs.Common.{◌≡◌, ◌+◌, ◌∷◌, length, sym, ap, ◌∙◌, arith, length-append, drop}
use Rattle.std.proofs.lemmas.List.{at_drop_more}
use Rattle.lin_table.specs.Gather.{entries_in}
use Rattle.lin_table.proofs.end.stored_by.Goals as goal

pub loop-hand-preserved : goal.loop-hand-preserved
loop-hand-preserved g c =
    let i = c.loop-hand.invariant in
    let at = c.loop-hand.hand-index in
    let hand = c.hand-item.result in
    let rest = drop (at + 1) c.args.hands.now in
    let count = c.count-stored.ensures.count in
    let most = c.count-stored.ensures.few in
    let sum = i.sum in
    let few = i.few in
    let more : length (entries_in (drop at c.args.hands.now)) ≡ length (entries_in rest) + length hand.entries =
    at_drop_more (λ l. length (entries_in l)) c.args.hands.now at hand c.loop-hand-test.true
    ∙ ap (λ h. length (entries_in (h ∷ rest))) (sym c.hand-item.is)
    ∙ length-append (entries_in rest) hand.entries in
    record { sum = omega arith; few = omega arith }
