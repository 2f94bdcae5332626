use Rattle.std.proofs.Common.{◌+◌, ap, subst, sym, ◌∙◌, arith}
use Rattle.std.proofs.lemmas.Option.{slice_get_within}
use Rattle.std.specs.Ordering.{int_eq}
use Rattle.indexmap.specs.IndexMap.{get}
use Rattle.lin_lost.specs.Counts.{count_in}
use Rattle.lin_lost.proofs.RestLemmas.{AreKept, kept_one, kept_no_more}
use Rattle.lin_lost.proofs.rest.calls_kept.Goals as goal
use Rattle.lin_lost.proofs.rest.calls_kept.Goals.{then-not-is_left_out+in_ok-push, else-not-is_left_out}

pub loop-call-preserved : goal.loop-call-preserved
loop-call-preserved c =
    let calls = c.args.problem.now.calls in
    let takes = count_in (get int_eq c.args.takes.now) in
    elim c.if-not-is_left_out.branch [
      | then-not-is_left_out+in_ok-push w ↦ subst (AreKept calls takes (c.loop-call.call + 1)) (sym (ap (λ v. v.items) w.kept-is ∙ w.in_ok-push.ensures.items)) (kept_one calls takes c.loop-call.call c.loop-call.kept.items c.call.result.now c.call.ensures c.loop-call.invariant (sym c.is_left_out.ensures ∙ w.if-not-is_left_out.true))
      | else-not-is_left_out w ↦ subst (AreKept calls takes (c.loop-call.call + 1)) (sym (ap (λ v. v.items) w.kept-is)) (kept_no_more calls takes c.loop-call.call c.loop-call.kept.items c.call.result.now c.call.ensures c.loop-call.invariant (sym c.is_left_out.ensures ∙ w.if-not-is_left_out.false))
    ]

pub returns-clause-some : goal.returns-clause-some
returns-clause-some c = (c.loop-call.invariant.rises, λ d h. let less = c.loop-call.invariant.below d h in let end = c.loop-call-test.false in let n = c.len-call-end.ensures in let a = c.loop-call.auto.call-end in omega (arith, less, end, n, a))

pub returns-clause-each : goal.returns-clause-each
returns-clause-each c = λ d x at. c.loop-call.invariant.each d x (let within = slice_get_within c.args.problem.now.calls d x at in let end = c.loop-call-test.false in let n = c.len-call-end.ensures in omega (arith, within, end, n)) at
