use Rattle.std.specs.BinaryHeap.{heap_items}
use Rattle.lin_history.proofs.ProblemLemmas.MergeLemmas.{pop_first}
use Rattle.lin_history.proofs.problems.timeline.take_first.Goals as goal

pub returns-clause-first : goal.returns-clause-first
returns-clause-first c = pop_first c.pop.result (heap_items c.args.later.now) (heap_items c.pop.new.self) c.requires c.pop.ensures.permutation c.pop.ensures.heap_order
