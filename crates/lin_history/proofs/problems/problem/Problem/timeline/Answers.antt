use Rattle.std.proofs.lemmas.Result.{IfOk-weaker}
use Rattle.lin_history.specs.Problems.Problem.{problem_of}
use Rattle.lin_history.specs.Problems.Timeline.{IsTimeline}
use Rattle.lin_history.specs.Problems.NumberedEvents.{events_from, AreMerged}
use Rattle.std.proofs.Common.{ℕ, []}
use Rattle.lin_history.proofs.ProblemLemmas.TimelineLemmas.{timeline_of}
use Rattle.lin_history.proofs.problems.problem.Problem.timeline.Goals as goal

pub returns : goal.returns
returns g c =
    let p = problem_of g.O.SeqObject.after g.O.State.PartialEq.eq g.O.Reply.PartialEq.eq c.args.self.now in
    IfOk-weaker c.merged.result
    (λ events. (high : ℕ) × AreMerged (events_from 0 c.calls.result.now) high events.items [])
    (λ events. IsTimeline p events.items)
    (λ events e. timeline_of p c.calls.result.now e.0 events.items c.calls.ensures.timed c.calls.ensures.calls e.1)
    c.merged.ensures
