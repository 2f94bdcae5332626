-- What the outcome of a search from the root tells.
use Rattle.std.proofs.Common.{ℕ, Some, inl, inr}
use Rattle.lin_history.specs.Problems.Problem.{Problem}
use Rattle.lin_history.specs.Problems.Continuations.{no_calls}
use Rattle.lin_search.specs.declared.outcome.Outcome.{Outcome}
use Rattle.lin_search.specs.declared.outcome.Outcome.TheVariants.{Found, Refuted, Undecided, Stopped}
use Rattle.lin_search.specs.Answer.{IsAnswer}
use Rattle.lin_search.specs.Told.{IsRightOf, IsSpent, IsToldUnless, told_by}

module _ {State Op Reply : Type 0} (p : Problem State Op Reply) (lifts : ℕ) (tells : ℕ → Type 0) where
  pub told_right : (o : Outcome) → IsAnswer p (no_calls p) p.start (Some lifts) tells o → IsRightOf p (told_by o)
  told_right (Found order) k = k
  told_right (Refuted longest) k = k.0
  told_right Undecided k = tt
  told_right (Stopped number) k = tt

  pub told_unless : (o : Outcome) → IsAnswer p (no_calls p) p.start (Some lifts) tells o → IsToldUnless (IsSpent p lifts tells) (told_by o)
  told_unless (Found order) k = tt
  told_unless (Refuted longest) k = tt
  told_unless Undecided k = inl k
  told_unless (Stopped number) k = inr (number, k)
