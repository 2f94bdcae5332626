use Rattle.std.proofs.Common.{length, map, get_or, refl, arith}
use Rattle.std.proofs.lemmas.Bool.{leb-false, lt-leb}
use Rattle.std.proofs.lemmas.List.{length-map}
use Rattle.std.proofs.lemmas.Option.{slice_get-get_or}
use Rattle.lin_history.specs.declared.limits.TheConstants.{MAX_CALLS, MAX_CALLS_ON_OBJECT}
use Rattle.lin_history.specs.Recorder.BuilderState.{made_view}
use Rattle.lin_history.proofs.recorder.builder.is_full.Goals as goal

pub returns-else-calls-ge-MAX_CALLS-clause-full : goal.returns-else-calls-ge-MAX_CALLS-clause-full
returns-else-calls-ge-MAX_CALLS-clause-full c =
    let count = c.requires.counted c.args.object (get_or c.args.counts.now c.args.object 0) (slice_get-get_or c.args.counts.now c.args.object 0 c.requires.within) in
    let same = length-map c.args.calls.now made_view in
    let few = lt-leb MAX_CALLS (length (map made_view c.args.calls.now)) (omega (arith, same, c.if-calls-ge-MAX_CALLS.false)) in
    rw (few, ← count) refl

pub returns-else-calls-ge-MAX_CALLS-clause-room_on : goal.returns-else-calls-ge-MAX_CALLS-clause-room_on
returns-else-calls-ge-MAX_CALLS-clause-room_on c room =
    rw (slice_get-get_or c.args.counts.now c.args.object 0 c.requires.within) (leb-false MAX_CALLS_ON_OBJECT (get_or c.args.counts.now c.args.object 0) room)
