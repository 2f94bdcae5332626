use Rattle.std.proofs.Common.{get_or, refl, ◌∙◌, sym, rules}
use Rattle.std.proofs.lemmas.Option.{slice_get_within}
use Rattle.lin_object.specs.contracts.state.ObjStatePartialEq.TheImpl.{eq-value as state_eq}
use Rattle.lin_history.specs.Recorder.Views.{call_view}
use Rattle.lin_history.specs.Locality.RecordedWhole.{whole_of}
use Rattle.lin_history.proofs.JoinLemmas.PlacementLemmas.{stands_next, value_within, placing_next, placing_goes_on, placing_done}
use Rattle.lin_history.proofs.locality.placing.placed_by_steps.Goals as goal

pub bounds-indices-number : goal.bounds-indices-number
bounds-indices-number c =
    let n = stands_next state_eq.it (whole_of c.args.history.now) c.args.object _ _ _ _ c.calls-calls.result.now c.loop-number.number-index c.args.indices.now c.loop-number-test.true c.requires.indices c.loop-number.invariant in
    slice_get_within c.args.indices.now (get_or c.calls-calls.result.now c.loop-number.number-index 0) n.index n.is_index

pub offset_bounds-indices-number : goal.offset_bounds-indices-number
offset_bounds-indices-number c =
    let n = stands_next state_eq.it (whole_of c.args.history.now) c.args.object _ _ _ _ c.calls-calls.result.now c.loop-number.number-index c.args.indices.now c.loop-number-test.true c.requires.indices c.loop-number.invariant in
    let within = slice_get_within c.args.indices.now (get_or c.calls-calls.result.now c.loop-number.number-index 0) n.index n.is_index in
    search rules

pub call-call-requires : goal.call-call-requires
call-call-requires c =
    let n = stands_next state_eq.it (whole_of c.args.history.now) c.args.object _ _ _ _ c.calls-calls.result.now c.loop-number.number-index c.args.indices.now c.loop-number-test.true c.requires.indices c.loop-number.invariant in
    value_within state_eq.it (whole_of c.args.history.now) c.args.object c.args.indices.now (get_or c.calls-calls.result.now c.loop-number.number-index 0) _ n refl

pub unreachable-requires : goal.unreachable-requires
unreachable-requires c =
    placing_goes_on state_eq.it (whole_of c.args.history.now) c.args.object _ _ c.loop-number.placed.items c.loop-number.state c.calls-calls.result.now c.loop-number.number-index c.args.indices.now _ (call_view c.call-call.result.now)
    c.loop-number-test.true c.requires.indices c.loop-number.invariant refl c.call-call.ensures.call (sym c.in_ok-next.ensures.answer ∙ c.in_default.is)

pub loop-number-preserved : goal.loop-number-preserved
loop-number-preserved c =
    placing_next state_eq.it (whole_of c.args.history.now) c.args.object _ _ c.loop-number.placed.items c.push.new.self.items c.loop-number.state c.calls-calls.result.now c.loop-number.number-index c.args.indices.now _ (call_view c.call-call.result.now) c.in-Some.next c.in-Some.reply
    c.loop-number-test.true c.requires.indices c.loop-number.invariant refl c.call-call.ensures.call (sym (rw c.in-Some.is at c.in_ok-next.ensures.answer)) c.in_ok-push.ensures.items

pub returns : goal.returns
returns c = placing_done state_eq.it (whole_of c.args.history.now) c.args.object _ _ _ _ _ _ c.loop-number-test.false c.calls-calls.ensures c.loop-number.invariant
