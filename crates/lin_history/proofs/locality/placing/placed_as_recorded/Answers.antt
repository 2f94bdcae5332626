use Rattle.std.proofs.Common.{get_or, refl, rules}
use Rattle.std.proofs.lemmas.Option.{slice_get_within}
use Rattle.lin_object.specs.contracts.state.ObjStatePartialEq.TheImpl.{eq-value as state_eq}
use Rattle.lin_history.specs.ReplyLemmas.{reply_same}
use Rattle.lin_history.specs.Recorder.Views.{call_view}
use Rattle.lin_history.specs.Locality.RecordedWhole.{whole_of, start_at}
use Rattle.lin_history.proofs.JoinLemmas.PlacementLemmas.{stands_next, value_within, placing_recorded, placing_done}
use Rattle.lin_history.proofs.locality.placing.placed_as_recorded.Goals as goal

pub bounds-indices-number : goal.bounds-indices-number
bounds-indices-number c =
    let n = stands_next state_eq.it (whole_of c.args.history.now) c.args.object _ _ _ _ c.calls-calls.result.now c.loop-number.number-index c.args.indices.now c.loop-number-test.true c.requires.indices c.loop-number.invariant.1 in
    slice_get_within c.args.indices.now (get_or c.calls-calls.result.now c.loop-number.number-index 0) n.index n.is_index

pub offset_bounds-indices-number : goal.offset_bounds-indices-number
offset_bounds-indices-number c =
    let n = stands_next state_eq.it (whole_of c.args.history.now) c.args.object _ _ _ _ c.calls-calls.result.now c.loop-number.number-index c.args.indices.now c.loop-number-test.true c.requires.indices c.loop-number.invariant.1 in
    let within = slice_get_within c.args.indices.now (get_or c.calls-calls.result.now c.loop-number.number-index 0) n.index n.is_index in
    search rules

pub call-requires : goal.call-requires
call-requires c =
    let n = stands_next state_eq.it (whole_of c.args.history.now) c.args.object _ _ _ _ c.calls-calls.result.now c.loop-number.number-index c.args.indices.now c.loop-number-test.true c.requires.indices c.loop-number.invariant.1 in
    value_within state_eq.it (whole_of c.args.history.now) c.args.object c.args.indices.now (get_or c.calls-calls.result.now c.loop-number.number-index 0) _ n refl

pub loop-number-preserved : goal.loop-number-preserved
loop-number-preserved c =
    placing_recorded state_eq.it (whole_of c.args.history.now) c.args.object reply_same (start_at c.args.history.now c.args.object) c.calls-calls.result.now c.loop-number.placed.items c.push.new.self.items c.calls-calls.result.now c.loop-number.number-index c.args.indices.now _ (call_view c.call.result.now) c.in-Some.field-0-0 c.in-Some.reply
    c.loop-number-test.true c.requires.indices c.loop-number.invariant refl c.call.ensures.call c.in-Some.is c.in_ok-push.ensures.items

pub returns : goal.returns
returns c = placing_done state_eq.it (whole_of c.args.history.now) c.args.object (start_at c.args.history.now c.args.object) _ _ c.loop-number.invariant.0 _ _ c.loop-number-test.false c.calls-calls.ensures c.loop-number.invariant.1
