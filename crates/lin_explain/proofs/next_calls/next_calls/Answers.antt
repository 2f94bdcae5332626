use Rattle.std.proofs.Common.{true≢false, sym, ◌∙◌}
use Rattle.lin_history.specs.Problems.AnyProblem.{any_problem}
use Rattle.lin_explain.proofs.NextLemmas.{early_next, next_early, next_skip, next_more, next_done}
use Rattle.lin_explain.proofs.next_calls.next_calls.Goals as goal
use Rattle.lin_explain.proofs.next_calls.next_calls.Goals.{then-comes_next+in_ok-push, else-comes_next}

pub run_flags-requires : goal.run_flags-requires
run_flags-requires c = rw c.calls-calls.ensures.calls c.requires

pub loop-call-preserved : goal.loop-call-preserved
loop-call-preserved c =
    let p = any_problem c.args.problem.now in
    let returns = rw (c.calls-calls.ensures.calls, c.as_slice.ensures.value) at c.first_return-first.ensures in
    let test = rw (c.calls-calls.ensures.calls, c.as_slice-in-loop-call.ensures.value) at c.comes_next.ensures in
    elim c.if-comes_next.branch [
      | then-comes_next+in_ok-push w ↦ rw w.next-is (next_more p c.args.run.now c.loop-call.call _ _ w.in_ok-push.ensures.items
          (early_next p c.args.run.now c.in_ok-flags.flags.items c.first_return-first.result c.in_ok-flags.ensures.flags returns c.loop-call.call (rw c.calls-calls.ensures.calls at c.loop-call-test.true) (test.0 w.if-comes_next.true))
          c.loop-call.invariant)
      | else-comes_next w ↦ rw w.next-is (next_skip p c.args.run.now c.loop-call.call _
          (λ next. true≢false (sym (test.1 (next_early p c.args.run.now c.in_ok-flags.flags.items c.first_return-first.result c.in_ok-flags.ensures.flags returns c.loop-call.call next)) ∙ w.if-comes_next.false))
          c.loop-call.invariant)
    ]

pub returns : goal.returns
returns c = next_done (any_problem c.args.problem.now) c.args.run.now c.loop-call.call _ (rw c.calls-calls.ensures.calls at c.loop-call-test.false) c.loop-call.invariant
