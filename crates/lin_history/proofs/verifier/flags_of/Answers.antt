use Rattle.std.proofs.Common.{◌≡◌, true, false, refl, arith}
use Rattle.std.proofs.Math.ListN.{set, length-set}
use Rattle.std.proofs.lemmas.Option.{slice_get_within}
use Rattle.lin_history.specs.Locality.RecordedWhole.{whole_of}
use Rattle.lin_history.proofs.VerifierLemmas.{placed_at, placed_there, marking_next, marking_stops, marking_done}
use Rattle.lin_history.proofs.verifier.flags_of.Goals as goal

pub returns-then-not-is_new : goal.returns-then-not-is_new
returns-then-not-is_new c =
    marking_stops (whole_of c.args.history.now) c.loop-one.flags.items c.args.placed.now c.loop-one.one-index (placed_at c.args.placed.now c.loop-one.one-index) (placed_there c.args.placed.now c.loop-one.one-index c.loop-one-test.true)
    (λ unset. absurd (let new : c.is_new.result ≡ true = c.is_new.ensures.1 (rw c.as_slice.ensures.value unset) in let not : c.is_new.result ≡ false = c.if-not-is_new.true in cc)) c.loop-one.invariant

pub index_mut-requires : goal.index_mut-requires
index_mut-requires c =
    let within = slice_get_within c.loop-one.flags.items (placed_at c.args.placed.now c.loop-one.one-index).call false (rw c.as_slice.ensures.value at (c.is_new.ensures.0 c.if-not-is_new.false)) in
    omega (arith, within, c.loop-one.flags.ok.0)

pub loop-one-preserved : goal.loop-one-preserved
loop-one-preserved c =
    marking_next (whole_of c.args.history.now) c.loop-one.flags.items (set c.loop-one.flags.items (placed_at c.args.placed.now c.loop-one.one-index).call true) c.args.placed.now c.args.placed.now c.loop-one.one-index (placed_at c.args.placed.now c.loop-one.one-index) (placed_there c.args.placed.now c.loop-one.one-index c.loop-one-test.true)
    (rw c.as_slice.ensures.value at (c.is_new.ensures.0 c.if-not-is_new.false)) refl (length-set c.loop-one.flags.items (placed_at c.args.placed.now c.loop-one.one-index).call true) c.loop-one.invariant

pub returns : goal.returns
returns c = marking_done (whole_of c.args.history.now) c.loop-one.flags.items c.args.placed.now c.loop-one.one-index c.loop-one-test.false c.loop-one.invariant
