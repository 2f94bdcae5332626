use Rattle.std.proofs.Common.{sym, ◌∙◌, true≢false, arith, below_more}
use Rattle.lin_history.specs.Problems.AnyProblem.{any_problem}
use Rattle.lin_ahead.proofs.items.ItemsOutLemmas.{took_within}
use Rattle.lin_ahead.proofs.items.taken_twice.some_took_again.Goals as goal

pub loop-call-preserved : goal.loop-call-preserved
loop-call-preserved c = below_more _ _ c.loop-call.invariant (λ again. true≢false (sym (c.took_again.ensures.1 again) ∙ c.if-took_again.false))

pub returns : goal.returns
returns c = (
  λ found. absurd (true≢false (sym found)),
  λ k.
      let within = took_within (any_problem c.args.problem.now) k.0 k.1.0 k.1.1 in
      absurd (c.loop-call.invariant k.0 (let e = c.loop-call-test.false in let n = c.len-call-end.ensures in let a = c.loop-call.auto.call-end in omega (arith, within, e, n, a)) k.1),
)
