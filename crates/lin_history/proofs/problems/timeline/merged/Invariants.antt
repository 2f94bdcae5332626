use Rattle.std.specs.BinaryHeap.{heap_items}
use Rattle.lin_history.proofs.ProblemLemmas.MergeLemmas.{AreMergedBefore}
use Rattle.lin_history.proofs.problems.timeline.merged.Given as goal

-- the events of the calls so far are merged
abbrev pub invariant-loop-call : goal.invariant-loop-call
invariant-loop-call g l = AreMergedBefore l.calls l.call l.events.items (heap_items l.later)
