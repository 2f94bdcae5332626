use Rattle.std.proofs.Common.{List}
use Rattle.std.specs.BinaryHeap.{IsHeap, heap_items, heap_len}
use Rattle.lin_history.specs.declared.problems.timeline.Timed.{Timed}
use Rattle.lin_history.specs.Problems.NumberedEvents.{first_by_number, AreMergedUpTo}
use Rattle.lin_history.proofs.problems.timeline.take_out_before.Given as goal

-- what was merged with numbers up to this one still is
abbrev pub invariant-loop-first : goal.invariant-loop-first
invariant-loop-first l =
    IsHeap first_by_number (heap_items l.later)
    × ((all : List Timed) → AreMergedUpTo all l.number l.initial.events.items (heap_items l.initial.later) → AreMergedUpTo all l.number l.events.items (heap_items l.later))

abbrev pub decreases-loop-first : goal.decreases-loop-first
decreases-loop-first l = heap_len l.later
