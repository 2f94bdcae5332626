use Rattle.std.proofs.lemmas.Option.{MatchOption-at_none}
use Rattle.lin_history.specs.Locality.RecordedWhole.{whole_of}
use Rattle.lin_history.proofs.VerifierLemmas.{distinct_of_whole}
use Rattle.lin_history.proofs.verifier.verify.Goals as goal

pub returns-in_default : goal.returns-in_default
returns-in_default c = (
  (λ e. absurd (cc)),
  (λ w. absurd (MatchOption-at_none _ _ c.in_default.is c.in_ok-flags.ensures (rw c.placed-placed.ensures (distinct_of_whole (whole_of c.args.history.now) c.args.order.now w)))),
)
