use Rattle.lin_search.proofs.PathLemmas.{calls_here, step_past}
use Rattle.lin_search.proofs.depth_first.passed_over.Goals as goal

pub is_needless-requires-clause-reachable : goal.is_needless-requires-clause-reachable
is_needless-requires-clause-reachable g c = c.requires.3.at.reachable

pub is_needless-requires-clause-minimal : goal.is_needless-requires-clause-minimal
is_needless-requires-clause-minimal g c = c.requires.3.at.minimal

pub after-requires-clause-lifted : goal.after-requires-clause-lifted
after-requires-clause-lifted g c = calls_here _ _ _ _ _ _ _ _ c.requires.3

pub after-requires-clause-minimal : goal.after-requires-clause-minimal
after-requires-clause-minimal g c = c.requires.3.at.minimal

pub returns-clause-step : goal.returns-clause-step
returns-clause-step g c =
    λ root limit left k.
    step_past root limit _ _ left _ _ _ _ _ c.after.ensures.longest (c.in_ok-is_needless.ensures c.if-not-branch.false) c.after.ensures.candidate k
