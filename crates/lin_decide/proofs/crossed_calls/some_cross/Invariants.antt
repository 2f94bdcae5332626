use Rattle.lin_history.specs.Problems.AnyProblem.{any_problem}
use Rattle.lin_history.specs.Problems.Timeline.{IsTimeline}
use Rattle.lin_decide.proofs.CrossedLemmas.{Looked}
use Rattle.lin_decide.proofs.crossed_calls.some_cross.Given as goal

-- the events are the timeline, and what is known of those looked at
abbrev pub invariant-loop-index : goal.invariant-loop-index
invariant-loop-index l = (t : IsTimeline (any_problem l.problem) l.events.items) × Looked (any_problem l.problem) l.rows l.events.items t l.index l.most
