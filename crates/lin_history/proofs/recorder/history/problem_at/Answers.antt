use Rattle.std.proofs.Common.{◌≡◌, map, refl, sym, ap, ◌∙◌, rules}
use Rattle.lin_history.specs.Recorder.RecordedHistory.{RecordedHistory, is_on}
use Rattle.lin_history.specs.Recorder.Views.{call_view}
use Rattle.lin_history.proofs.RecorderLemmas.PartCallsLemmas.{index_within, part_next, part_done, few_in_part}
use Rattle.lin_history.proofs.ProblemLemmas.EventNumberLemmas.{timed_part}
use Rattle.lin_history.proofs.recorder.history.problem_at.Goals as goal

pub call-call-requires : goal.call-call-requires
call-call-requires c = index_within c.args.object c.args.history.now.calls c.args.indices.now c.loop-index.index-index c.requires.indices c.loop-index-test.true

pub loop-index-preserved : goal.loop-index-preserved
loop-index-preserved c =
    part_next c.args.object c.args.history.now.calls c.args.indices.now c.loop-index.index-index _ (call_view c.call-call.result.now) c.loop-index.calls.items c.push.new.self.items c.requires.indices c.loop-index-test.true refl c.call-call.ensures.call c.in_ok-push.ensures.items c.loop-index.invariant

pub with_calls-requires-clause-timed : goal.with_calls-requires-clause-timed
with_calls-requires-clause-timed c =
    timed_part (is_on c.args.object) c.history.invariant.0.0 c.args.history.now.calls c.loop-index.calls.items (ap (λ (h : RecordedHistory). h.calls) (sym c.history.view_is) ∙ c.history.invariant.0.1.calls_are)
    (part_done c.args.object c.args.history.now.calls c.args.indices.now c.loop-index.index-index c.loop-index.calls.items c.requires.indices c.loop-index-test.false c.loop-index.invariant)

pub with_calls-requires-clause-few : goal.with_calls-requires-clause-few
with_calls-requires-clause-few c =
    let part = part_done c.args.object c.args.history.now.calls c.args.indices.now c.loop-index.index-index c.loop-index.calls.items c.requires.indices c.loop-index-test.false c.loop-index.invariant in
    let calls : map call_view c.history.inside.calls.items ≡ c.args.history.now.calls = ap (λ (h : RecordedHistory). h.calls) c.history.view_is in
    rw part (few_in_part c.args.object c.args.history.now.calls (rw calls at (c.history.invariant.2 c.args.object)))

pub returns-clause-calls : goal.returns-clause-calls
returns-clause-calls c =
    rw c.with_calls.ensures (part_done c.args.object c.args.history.now.calls c.args.indices.now c.loop-index.index-index c.loop-index.calls.items c.requires.indices c.loop-index-test.false c.loop-index.invariant)

pub returns-clause-start : goal.returns-clause-start
returns-clause-start c = search rules depth 3
