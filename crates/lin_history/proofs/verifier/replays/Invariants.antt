use Rattle.std.proofs.Common.{◌≡◌, drop, length, pos}
use Rattle.lin_object.specs.declared.kind.Kind.TheVariants.{Register}
use Rattle.lin_object.specs.Kinds.{state_at_start}
use Rattle.lin_history.specs.Locality.RecordedWhole.{whole_of}
use Rattle.lin_history.proofs.VerifierLemmas.{IsReplaying}
use Rattle.lin_history.proofs.verifier.replays.Given as goal

abbrev pub invariant-loop-one : goal.invariant-loop-one
invariant-loop-one l = record {
  replay : IsReplaying (whole_of l.history) (state_at_start Register (pos 0)) l.states.items l.placed (drop l.one-index l.placed);
  count : length l.states.items ≡ length l.history.objects;
}
