use Rattle.std.proofs.Common.{sym, ◌∙◌}
use Rattle.lin_ahead.proofs.first.FirstLemmas.{among_if}
use Rattle.lin_ahead.proofs.first.refuted_set.RefutedSet.has.Goals as goal

pub returns-then-not-is_empty : goal.returns-then-not-is_empty
returns-then-not-is_empty g c = λ h. rw (← c.self.view_is) (among_if _ _ _ (sym c.contains.ensures ∙ h))
