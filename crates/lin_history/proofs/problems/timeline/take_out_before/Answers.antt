use Rattle.std.proofs.Common.{List, ◌++◌, ◌∷◌, [], sym, subst}
use Rattle.std.specs.BinaryHeap.{heap_items}
use Rattle.lin_history.specs.declared.problems.timeline.ProblemEvent.{ProblemEvent}
use Rattle.lin_history.specs.Problems.NumberedEvents.{AreMergedUpTo}
use Rattle.lin_history.proofs.ProblemLemmas.MergeLemmas.{merge_before, nothing_before}
use Rattle.lin_history.proofs.problems.timeline.take_out_before.Goals as goal

pub loop-first-preserved : goal.loop-first-preserved
loop-first-preserved c =
    let new = heap_items c.take_before.new.later in
    let first = c.in-Some.ensures.first in
    let number = c.args.number in (
      first.1.heap,
      λ all m. subst (λ (l : List ProblemEvent). AreMergedUpTo all number l new) (sym c.in_ok-push.ensures.items) (merge_before all number c.loop-first.events.items (heap_items c.loop-first.later) c.in-Some.first new first.0 (c.loop-first.invariant.1 all m) first.1),
    )

pub returns : goal.returns
returns c = λ all m.
    nothing_before all c.args.number c.loop-first.events.items (heap_items c.loop-first.later) (heap_items c.take_before.new.later) c.in_default.ensures.none.0 (c.loop-first.invariant.1 all m) c.in_default.ensures.none.1
