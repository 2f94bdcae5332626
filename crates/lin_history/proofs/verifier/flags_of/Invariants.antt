use Rattle.std.proofs.Common.{drop}
use Rattle.lin_history.specs.Locality.RecordedWhole.{whole_of}
use Rattle.lin_history.proofs.VerifierLemmas.{IsMarking}
use Rattle.lin_history.proofs.verifier.flags_of.Given as goal

abbrev pub invariant-loop-one : goal.invariant-loop-one
invariant-loop-one l = IsMarking (whole_of l.history) l.flags.items l.placed (drop l.one-index l.placed)
