use Rattle.std.proofs.Common.{List, ◌++◌}
use Rattle.std.specs.BinaryHeap.{heap_items, KeepsHeap}
use Rattle.std.specs.List.Sorted.{IsPermutation}
use Rattle.lin_history.specs.Problems.NumberedEvents.{first_by_number, return_of}
use Rattle.lin_history.proofs.ProblemLemmas.MergeLemmas.{merge_call_events, on_ok_both}
use Rattle.lin_history.proofs.problems.timeline.add_call.Goals as goal

pub returns : goal.returns
returns g c =
    let call = c.args.call in
    let made = c.args.made.now in
    let later = heap_items c.take_out_before.new.later in
    let new = heap_items c.add_return.new.later in
    on_ok_both c.add_return.result c.add_return.ensures.moved c.add_return.ensures.heap (λ moved heap all m.
    let out = c.in_ok-take_out_before.ensures all m in
    merge_call_events all call made c.take_out_before.new.events.items c.push.new.self.items later new c.requires.returned out.0 out.1 c.in_ok-push.ensures.items moved heap)
