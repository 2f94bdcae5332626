use Rattle.std.proofs.Common.{rules}
use Rattle.lin_ahead.specs.Items.Takers.{queue_of}
use Rattle.lin_ahead.proofs.items.TakerLemmas.{few_is}
use Rattle.lin_ahead.proofs.items.takers.are_too_few.Goals as goal

pub returns : goal.returns
returns c = λ less.
    (c.in_ok-found.found.items, c.in_ok-found.ensures, few_is (queue_of c.args.calls.now) c.args.after.now.config.now.lifted c.args.after.now.call c.args.deadline.event c.args.ahead.now.takers.items c.as_slice.result.now _ _ c.in_ok-found.found.items c.requires.1 c.as_slice.ensures.value c.count_left-takers.ensures (search rules) less)
