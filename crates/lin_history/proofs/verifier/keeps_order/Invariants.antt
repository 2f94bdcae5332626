use Rattle.std.proofs.Common.{drop}
use Rattle.lin_history.specs.Locality.RecordedWhole.{whole_of}
use Rattle.lin_history.proofs.VerifierLemmas.{IsTiming}
use Rattle.lin_history.proofs.verifier.keeps_order.Given as goal

abbrev pub invariant-loop-one : goal.invariant-loop-one
invariant-loop-one l = IsTiming (whole_of l.history) l.greatest l.placed (drop l.one-index l.placed)
