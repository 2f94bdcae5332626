use Rattle.std.proofs.Common.{arith, sym, ◌∙◌}
use Rattle.lin_history.specs.Problems.AnyProblem.{any_problem}
use Rattle.lin_prefixes.specs.OnlyReplies.{IsReplied}
use Rattle.lin_prefixes.proofs.OnlyReplyLemmas.{each_below, same_runs}
use Rattle.lin_prefixes.proofs.only_replies.are_replied.Goals as goal

pub loop-call-preserved : goal.loop-call-preserved
loop-call-preserved c = each_below (IsReplied (any_problem c.args.problem.now) (any_problem c.args.other.now)) c.loop-call.call c.loop-call.invariant (c.is_replied.ensures c.if-not-is_replied.false)

pub returns : goal.returns
returns c = λ yes. same_runs c.args.problem.now c.args.other.now (sym c.len-2.ensures ∙ sym c.if-len.false ∙ c.len.ensures) c.requires (λ d within. c.loop-call.invariant d (let e = c.loop-call-test.false in let n = c.len-call-end.ensures in omega (arith, e, n, within)))
