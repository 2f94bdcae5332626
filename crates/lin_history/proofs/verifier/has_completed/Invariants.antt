use Rattle.lin_history.specs.Locality.RecordedWhole.{whole_of}
use Rattle.lin_history.proofs.VerifierLemmas.{HaveFlags}
use Rattle.lin_history.proofs.verifier.has_completed.Given as goal

abbrev pub invariant-loop-index : goal.invariant-loop-index
invariant-loop-index l = HaveFlags (whole_of l.history) l.flags l.index
