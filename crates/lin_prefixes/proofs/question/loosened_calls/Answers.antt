use Rattle.std.proofs.Common.{◌≡◌, ◌+◌, ℕ, subst, arith}
use Rattle.lin_history.specs.Problems.AnyProblem.{any_problem}
use Rattle.lin_prefixes.proofs.QuestionLemmas.{AreLoosened, loosened_more}
use Rattle.lin_prefixes.proofs.question.loosened_calls.Goals as goal

pub loop-call-preserved : goal.loop-call-preserved
loop-call-preserved c = loosened_more (any_problem c.args.problem.now) c.args.question.call c.args.question.kept.now c.args.question.takers.now c.loop-call.call _ _ _ c.in_ok-push.ensures.items c.loosened_call.ensures c.loop-call.invariant

pub returns : goal.returns
returns c =
    let all = subst (λ (n : ℕ). AreLoosened (any_problem c.args.problem.now) c.args.question.call c.args.question.kept.now c.args.question.takers.now n c.loop-call.calls.items) (let a = c.loop-call.auto.call-end in let b = c.loop-call-test.false in let e : c.loop-call.call ≡ c.args.question.call + 1 = omega (arith, a, b) in e) c.loop-call.invariant in
    record { count = all.0; each = all.1 }
