use Rattle.std.proofs.Common.{◌∙◌}
use Rattle.lin_search.proofs.ProgressLemmas.{least_none}
use Rattle.lin_search.proofs.depth_first.known_of.Goals as goal

pub returns-then-is_complete-clause-answer : goal.returns-then-is_complete-clause-answer
returns-then-is_complete-clause-answer g c =
    rw (c.new-then-is_complete.ensures ∙ c.new.ensures.items) (least_none _ _ _ (c.is_complete.ensures.0 c.if-is_complete.true))
