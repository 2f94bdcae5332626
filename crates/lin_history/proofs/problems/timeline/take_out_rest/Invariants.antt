use Rattle.std.proofs.Common.{ℕ, List}
use Rattle.std.specs.BinaryHeap.{IsHeap, heap_items, heap_len}
use Rattle.lin_history.specs.declared.problems.timeline.Timed.{Timed}
use Rattle.lin_history.specs.Problems.NumberedEvents.{first_by_number, AreMerged}
use Rattle.lin_history.proofs.problems.timeline.take_out_rest.Given as goal

-- what was merged up to some number is merged up to another
abbrev pub invariant-loop-first : goal.invariant-loop-first
invariant-loop-first l =
    IsHeap first_by_number (heap_items l.later)
    × ((all : List Timed) (low : ℕ) → AreMerged all low l.initial.events.items (heap_items l.initial.later) → (high : ℕ) × AreMerged all high l.events.items (heap_items l.later))

abbrev pub decreases-loop-first : goal.decreases-loop-first
decreases-loop-first l = heap_len l.later
