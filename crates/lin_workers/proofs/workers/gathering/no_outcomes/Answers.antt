use Rattle.std.proofs.Common.{◌∙◌, ◌∷◌, ◌++◌, [], List, None, Option, ap, sym}
use Rattle.std.proofs.lemmas.Grind.{replicate_next}
use Rattle.lin_search.specs.declared.outcome.Outcome.{Outcome}
use Rattle.lin_workers.proofs.workers.gathering.no_outcomes.Goals as goal

pub loop-preserved : goal.loop-preserved
loop-preserved c =
    c.in_ok-push.ensures.items ∙ (ap (λ (os : List (Option Outcome)). os ++ None ∷ []) c.loop.invariant ∙ sym (replicate_next c.loop.counter None))
