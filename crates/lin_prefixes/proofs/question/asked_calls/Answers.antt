use Rattle.std.proofs.Common.{◌≡◌, ◌+◌, ℕ, subst, arith}
use Rattle.lin_history.specs.Problems.AnyProblem.{any_problem}
use Rattle.lin_prefixes.specs.Questions.{AreAsked}
use Rattle.lin_prefixes.proofs.QuestionLemmas.{asked_not, asked_more}
use Rattle.lin_prefixes.proofs.question.asked_calls.Goals as goal
use Rattle.lin_prefixes.proofs.question.asked_calls.Goals.{then-not-stays_out+in_ok-push, else-not-stays_out}

pub loop-call-preserved : goal.loop-call-preserved
loop-call-preserved c =
    elim c.if-not-stays_out.branch [
      | then-not-stays_out+in_ok-push w ↦ rw w.calls-is (asked_more (any_problem c.args.problem.now) c.loop-call.call c.args.question.takers.now _ _ w.in_ok-push.ensures.items (c.stays_out.ensures.no w.if-not-stays_out.true) c.loop-call.invariant)
      | else-not-stays_out w ↦ rw w.calls-is (asked_not (any_problem c.args.problem.now) c.loop-call.call c.args.question.takers.now _ (c.stays_out.ensures.yes w.if-not-stays_out.false) c.loop-call.invariant)
    ]

pub returns : goal.returns
returns c = subst (λ (n : ℕ). AreAsked (any_problem c.args.problem.now) n c.args.question.takers.now c.loop-call.calls.items) (let a = c.loop-call.auto.call-end in let b = c.loop-call-test.false in let e : c.loop-call.call ≡ c.args.question.call + 1 = omega (arith, a, b) in e) c.loop-call.invariant
