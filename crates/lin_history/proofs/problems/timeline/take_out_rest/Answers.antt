use Rattle.std.proofs.Common.{ℕ, List, ◌++◌, ◌∷◌, [], sym, subst}
use Rattle.std.specs.BinaryHeap.{heap_items}
use Rattle.lin_history.specs.declared.problems.timeline.ProblemEvent.{ProblemEvent}
use Rattle.lin_history.specs.Problems.NumberedEvents.{AreMerged}
use Rattle.lin_history.proofs.ProblemLemmas.MergeLemmas.{merge_next, merge_all}
use Rattle.lin_history.proofs.problems.timeline.take_out_rest.Goals as goal

pub loop-first-preserved : goal.loop-first-preserved
loop-first-preserved c =
    let new = heap_items c.take_first.new.later in
    let first = c.in-Some.ensures.first in (
      first.heap,
      λ all low m. merge_next all c.loop-first.events.items c.push.new.self.items (heap_items c.loop-first.later) c.in-Some.first new first c.in_ok-push.ensures.items (c.loop-first.invariant.1 all low m),
    )

pub returns : goal.returns
returns c = λ all low m. merge_all all c.loop-first.events.items (heap_items c.loop-first.later) c.in_default.ensures.none.0 (c.loop-first.invariant.1 all low m)
