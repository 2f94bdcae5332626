use Rattle.std.proofs.Common.{◌≡◌, true, false, refl, rules}
use Rattle.lin_history.specs.Recorder.Views.{call_view}
use Rattle.lin_history.specs.Locality.RecordedWhole.{whole_of}
use Rattle.lin_history.proofs.VerifierLemmas.{placed_at, placed_there, stands_there, timing_next, timing_stops, timing_done}
use Rattle.lin_history.proofs.verifier.keeps_order.Goals as goal

pub call-call-requires : goal.call-call-requires
call-call-requires c =
    c.requires _ (stands_there (whole_of c.args.history.now) c.args.placed.now c.loop-one.one-index (placed_at c.args.placed.now c.loop-one.one-index) (placed_there c.args.placed.now c.loop-one.one-index c.loop-one-test.true))

pub returns-then-returned_before : goal.returns-then-returned_before
returns-then-returned_before c = (
  (λ e. absurd (cc)),
  (λ keeps. absurd (timing_stops (whole_of c.args.history.now) c.loop-one.greatest c.max-greatest.result c.args.placed.now c.loop-one.one-index (placed_at c.args.placed.now c.loop-one.one-index) (call_view c.call-call.result.now)
      (placed_there c.args.placed.now c.loop-one.one-index c.loop-one-test.true) c.call-call.ensures.call (search rules) (c.returned_before.ensures.0 c.if-returned_before.true) c.loop-one.invariant keeps)),
)

pub loop-one-preserved : goal.loop-one-preserved
loop-one-preserved c =
    timing_next (whole_of c.args.history.now) c.loop-one.greatest c.max-greatest.result c.args.placed.now c.args.placed.now c.loop-one.one-index (placed_at c.args.placed.now c.loop-one.one-index) (call_view c.call-call.result.now)
    (placed_there c.args.placed.now c.loop-one.one-index c.loop-one-test.true) c.call-call.ensures.call (search rules) (λ late. absurd (let said : c.returned_before.result ≡ true = c.returned_before.ensures.1 late in let not : c.returned_before.result ≡ false = c.if-returned_before.false in cc)) c.loop-one.invariant

pub returns : goal.returns
returns c = ((λ e. timing_done (whole_of c.args.history.now) c.loop-one.greatest c.args.placed.now c.loop-one.one-index c.loop-one-test.false c.loop-one.invariant), (λ keeps. refl))
