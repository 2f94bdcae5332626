use Rattle.std.proofs.Common.{◌≡◌, Some, length, sym, ap, ◌∙◌, arith}
use Rattle.std.specs.List.{slice_get}
use Rattle.std.proofs.lemmas.Bool.{true≢false}
use Rattle.std.proofs.lemmas.Option.{slice_get_read}
use Rattle.lin_history.specs.declared.problems.timeline.ProblemEvent.{ProblemEvent}
use Rattle.lin_history.specs.declared.problems.timeline.ProblemEvent.TheVariants.{Call}
use Rattle.lin_history.specs.Problems.AnyProblem.{any_problem}
use Rattle.lin_decide.proofs.CrossedLemmas.{crossed_none, crossing, no_crossing, looked_at_call, looked_at_return}
use Rattle.lin_decide.proofs.crossed_calls.some_cross.Goals as goal
use Rattle.lin_decide.proofs.crossed_calls.some_cross.Goals.{in-Call+else-is_needed_before, in-Return}

pub returns-then-is_needed_before-clause-none : goal.returns-then-is_needed_before-clause-none
returns-then-is_needed_before-clause-none c = λ yes.
    let p = any_problem c.args.problem.now in
    let count : c.len-index-end.result ≡ length c.in_ok-events.events.items = let a = c.len-index-end.ensures in let b = c.in_ok-events.events.ok.0 in omega (arith, a, b) in
    let at : slice_get c.in_ok-events.events.items c.loop-index.index ≡ Some (Call c.in-Call.call) = slice_get_read _ _ _ _ count c.loop-index-test.true c.index.ensures ∙ ap (λ (e : ProblemEvent). Some e) c.in-Call.is in
    crossed_none p c.args.rows.now c.in_ok-events.events.items c.loop-index.invariant.0 c.requires
    (crossing p c.args.rows.now c.in_ok-events.events.items c.loop-index.invariant.0 c.loop-index.index c.in-Call.call c.loop-index.most c.loop-index.invariant.1 at (c.is_needed_before.ensures.0 c.if-is_needed_before.true))

pub loop-index-preserved : goal.loop-index-preserved
loop-index-preserved c =
    let p = any_problem c.args.problem.now in
    let t = c.loop-index.invariant.0 in
    let events = c.in_ok-events.events.items in
    let count : c.len-index-end.result ≡ length events = let a = c.len-index-end.ensures in let b = c.in_ok-events.events.ok.0 in omega (arith, a, b) in
    let read : slice_get events c.loop-index.index ≡ Some c.index.result.now = slice_get_read _ _ _ _ count c.loop-index-test.true c.index.ensures in
    elim c.match-index.branch [
      | in-Call+else-is_needed_before w ↦ (
        t,
        rw w.most-is (looked_at_call p c.args.rows.now events t c.loop-index.index w.in-Call.call c.loop-index.most c.loop-index.invariant.1 (read ∙ ap (λ (e : ProblemEvent). Some e) w.in-Call.is) (λ needed. true≢false (sym (w.is_needed_before.ensures.1 needed) ∙ w.if-is_needed_before.false))),
      )
      | in-Return w ↦ (
        t,
        rw w.most-is (looked_at_return p c.args.rows.now events t c.loop-index.index w.in-Return.call c.loop-index.most w.most_with-most.result c.loop-index.invariant.1 (read ∙ ap (λ (e : ProblemEvent). Some e) w.in-Return.is) w.most_with-most.ensures.least w.most_with-most.ensures.own w.most_with-most.ensures.told),
      )
    ]

pub returns-clause-exact : goal.returns-clause-exact
returns-clause-exact c =
    let p = any_problem c.args.problem.now in
    let count : c.len-index-end.result ≡ length c.in_ok-events.events.items = let a = c.len-index-end.ensures in let b = c.in_ok-events.events.ok.0 in omega (arith, a, b) in
    let over = c.loop-index-test.false in
    (λ yes. absurd (true≢false (sym yes)), λ some. absurd (no_crossing p c.args.rows.now c.in_ok-events.events.items c.loop-index.invariant.0 c.loop-index.index c.loop-index.most (omega (arith, over, count)) c.requires.each_by c.loop-index.invariant.1 some))
