use Rattle.std.proofs.Common.{length, refl, sym, ap, ◌∙◌}
use Rattle.std.proofs.Math.ListN.{set, length-set}
use Rattle.std.proofs.Common.{pos}
use Rattle.std.proofs.lemmas.Option.{slice_get_read}
use Rattle.std.proofs.lemmas.List.{length-map}
use Rattle.lin_object.specs.declared.kind.Kind.TheVariants.{Register}
use Rattle.lin_object.specs.Kinds.{state_at_start}
use Rattle.lin_history.specs.Recorder.Views.{call_view}
use Rattle.lin_history.specs.Locality.RecordedWhole.{whole_of}
use Rattle.lin_history.proofs.VerifierLemmas.{placed_at, placed_there, stands_there, replaying_none, states_start, replaying_next, replaying_stops}
use Rattle.lin_history.proofs.verifier.replays.Goals as goal

pub call-call-requires : goal.call-call-requires
call-call-requires c =
    c.requires _ (stands_there (whole_of c.args.history.now) c.args.placed.now c.loop-one.one-index (placed_at c.args.placed.now c.loop-one.one-index) (placed_there c.args.placed.now c.loop-one.one-index c.loop-one-test.true))

pub returns-in_default : goal.returns-in_default
returns-in_default c = (
  (λ e. absurd (cc)),
  (λ legal. absurd (replaying_stops (whole_of c.args.history.now) (state_at_start Register (pos 0)) c.loop-one.states.items c.args.placed.now c.loop-one.one-index (placed_at c.args.placed.now c.loop-one.one-index) (call_view c.call-call.result.now) c.index.result.now
      (placed_there c.args.placed.now c.loop-one.one-index c.loop-one-test.true) c.call-call.ensures.call (slice_get_read c.loop-one.states.items _ c.call-call.result.now.object c.index.result.now (sym c.loop-one.invariant.count) c.call-call.ensures.declared c.index.ensures)
      (λ m step. c.in_default.not-Some m ((c.in_ok-next.ensures m).1 (step.step, step.recorded))) c.loop-one.invariant.replay legal)),
)

pub loop-one-preserved : goal.loop-one-preserved
loop-one-preserved c = record {
  replay = (let step = (c.in_ok-next.ensures c.in-Some.next).0 c.in-Some.is in
      replaying_next (whole_of c.args.history.now) (state_at_start Register (pos 0)) c.loop-one.states.items (set c.loop-one.states.items c.call-call.result.now.object c.in-Some.next) c.args.placed.now c.args.placed.now c.loop-one.one-index (placed_at c.args.placed.now c.loop-one.one-index) (call_view c.call-call.result.now) c.index.result.now c.in-Some.next
      (placed_there c.args.placed.now c.loop-one.one-index c.loop-one-test.true) c.call-call.ensures.call (slice_get_read c.loop-one.states.items _ c.call-call.result.now.object c.index.result.now (sym c.loop-one.invariant.count) c.call-call.ensures.declared c.index.ensures)
      (record { step = step.0; recorded = step.1 }) refl c.loop-one.invariant.replay);
  count = length-set c.loop-one.states.items c.call-call.result.now.object c.in-Some.next ∙ c.loop-one.invariant.count;
}

pub loop-one-init : goal.loop-one-init
loop-one-init c = record {
  replay = replaying_none (whole_of c.args.history.now) (state_at_start Register (pos 0)) c.in_ok-states.states.items c.args.placed.now (λ k. states_start c.args.history.now c.in_ok-states.states.items k c.in_ok-states.ensures);
  count = ap length c.in_ok-states.ensures ∙ length-map _ _;
}
