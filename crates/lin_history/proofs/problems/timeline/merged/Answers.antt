use Rattle.std.proofs.Common.{◌≡◌, ◌<◌, ◌≤◌, Some, length, arith}
use Rattle.std.specs.List.{slice_get}
use Rattle.std.specs.BinaryHeap.{heap_items}
use Rattle.lin_history.proofs.ProblemLemmas.MergeLemmas.{there, returns_after, merged_more, merged_at_end}
use Rattle.lin_history.proofs.problems.timeline.merged.Goals as goal

pub add_call-requires-clause-returned : goal.add_call-requires-clause-returned
add_call-requires-clause-returned g c =
    let calls = c.args.calls.now in
    let call = c.loop-call.call in
    let made = c.index-calls-call.result in
    returns_after calls call made c.requires.timed (there calls call made (let more = c.loop-call-test.true in omega (arith, more)) c.index-calls-call.is)

pub loop-call-preserved : goal.loop-call-preserved
loop-call-preserved g c =
    let calls = c.args.calls.now in
    let call = c.loop-call.call in
    let made = c.index-calls-call.result in
    let read : slice_get calls call ≡ Some made = there calls call made (let more = c.loop-call-test.true in omega (arith, more)) c.index-calls-call.is in
    merged_more calls call made c.loop-call.events.items c.add_call.new.events.items (heap_items c.loop-call.later) (heap_items c.add_call.new.later) c.requires.timed read c.loop-call.invariant c.in_ok-add_call.ensures

pub returns : goal.returns
returns g c =
    let calls = c.args.calls.now in
    let call = c.loop-call.call in
    let over : length calls ≤ call = (let past = c.loop-call-test.false in omega (arith, past)) in
    merged_at_end calls call c.loop-call.events.items c.take_out_rest.new.events.items (heap_items c.loop-call.later) over c.loop-call.invariant c.in_ok-take_out_rest.ensures
