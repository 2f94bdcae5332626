use Rattle.std.proofs.Common.{rules, sym, ◌∙◌}
use Rattle.lin_ahead.proofs.stacks.PopLemmas.{above_more, above_found}
use Rattle.lin_ahead.proofs.stacks.takers.items_above.Goals as goal

pub loop-preserved : goal.loop-preserved
loop-preserved c =
    let more = above_more c.args.items.now c.loop.above c.loop.rest c.in_ok-above.above c.in_ok-rest-2.rest _ c.in-Some.first _ c.loop.invariant.whole c.loop.invariant.apart (sym c.first.ensures ∙ c.in-Some.is) c.in_ok-rest-2.ensures c.in_ok-above.ensures (search rules) (λ same. search rules) in
    record { whole = more.0; apart = more.1 }

pub returns-then-first-item : goal.returns-then-first-item
returns-then-first-item c =
    above_found c.args.items.now c.loop.above c.loop.rest c.in_ok-rest-2.rest c.args.item c.in-Some.first _ c.has.result c.loop.invariant.whole c.loop.invariant.apart (sym c.first.ensures ∙ c.in-Some.is) c.in_ok-rest-2.ensures (search rules) (search rules) c.has.ensures c.if-has.false
