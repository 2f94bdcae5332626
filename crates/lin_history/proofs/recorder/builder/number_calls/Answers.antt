use Rattle.std.proofs.Common.{◌<◌, ◌≤◌, length, map, arith}
use Rattle.lin_history.specs.Recorder.Views.{call_view}
use Rattle.lin_history.proofs.RecorderLemmas.NumberingLemmas.{numbering_start, numbering_within, numbering_room, numbering_next, numbering_done}
use Rattle.lin_history.proofs.recorder.builder.number_calls.Goals as goal

pub loop-call-init : goal.loop-call-init
loop-call-init c = numbering_start c.args.calls.now c.args.counts.now c.clear.new.counts c.clear.ensures.count c.requires.counted c.clear.ensures.zero

pub number_call-requires-clause-within : goal.number_call-requires-clause-within
number_call-requires-clause-within c =
    let within : c.loop-call.call < length c.loop-call.calls = (let same = c.loop-call.auto.calls in let less = c.loop-call-test.true in omega (arith, same, less)) in
    numbering_within (map call_view c.args.calls.now) c.loop-call.calls c.loop-call.counts c.loop-call.call c.loop-call.invariant within

pub number_call-requires-clause-room : goal.number_call-requires-clause-room
number_call-requires-clause-room c =
    numbering_room (map call_view c.args.calls.now) c.loop-call.calls c.loop-call.counts c.loop-call.call c.loop-call.invariant c.requires.limited

pub loop-call-preserved : goal.loop-call-preserved
loop-call-preserved c =
    let within : c.loop-call.call < length c.loop-call.calls = (let same = c.loop-call.auto.calls in let less = c.loop-call-test.true in omega (arith, same, less)) in
    numbering_next (map call_view c.args.calls.now) c.loop-call.calls c.number_call.new.calls c.loop-call.counts c.number_call.new.counts c.loop-call.call c.loop-call.invariant within c.number_call.ensures

pub returns-clause-same : goal.returns-clause-same
returns-clause-same c = c.loop-call.invariant.same

pub returns-clause-numbered : goal.returns-clause-numbered
returns-clause-numbered c =
    let over : length c.loop-call.calls ≤ c.loop-call.call = (let same = c.loop-call.auto.calls in let past = c.loop-call-test.false in omega (arith, same, past)) in
    numbering_done (map call_view c.args.calls.now) c.loop-call.calls c.loop-call.counts c.loop-call.call c.loop-call.invariant over
