use Rattle.std.proofs.Common.{◌<◌, arith}
use Rattle.lin_prefixes.proofs.TwinLemmas.{repeated}
use Rattle.lin_prefixes.proofs.twins.is_repeated.Goals as goal

pub returns-then-changes_nothing : goal.returns-then-changes_nothing
returns-then-changes_nothing c = λ yes k.
    let same = c.have_one_reply.ensures c.if-not-have_one_reply.false in
    let less : c.args.earlier < c.args.later = (let h = c.if-earlier-later.false in omega (arith, h)) in
    repeated c.args.problem.now c.args.earlier c.args.later k c.call-first.result.now c.call-second.result.now same.0 same.1 c.calls-calls.ensures.timed less c.call-first.ensures c.call-second.ensures (c.are_one_op.ensures c.if-not-are_one_op.false) same.2 same.3 same.4 (c.changes_nothing.ensures.law c.if-changes_nothing.true) (c.ignores_process.ensures.law yes)
