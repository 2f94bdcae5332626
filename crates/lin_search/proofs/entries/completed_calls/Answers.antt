use Rattle.std.proofs.Common.{sym, ap, ◌∙◌, arith}
use Rattle.lin_search.specs.EntryLinks.{one_completed}
use Rattle.lin_search.proofs.EntriesLemmas.{completed_more}
use Rattle.lin_search.proofs.entries.completed_calls.Goals as goal
use Rattle.lin_search.proofs.entries.completed_calls.Goals.{then-is_some, else-is_some}

pub loop-call-preserved : goal.loop-call-preserved
loop-call-preserved g c =
    let more = completed_more c.args.problem.now.calls c.loop-call.call c.call.result.now c.call.ensures in
    let low = c.loop-call.invariant.0 in
    let sum = c.loop-call.invariant.1 in
    elim c.if-is_some.branch [
      | then-is_some w ↦ (let count = w.count-is in let one = ap one_completed (sym c.is_some.ensures ∙ w.if-is_some.true) in (omega (arith, low, count), omega (arith, sum, more, count, one)))
      | else-is_some w ↦ (let count = w.count-is in let none = ap one_completed (sym c.is_some.ensures ∙ w.if-is_some.false) in (omega (arith, low, count), omega (arith, sum, more, count, none)))
    ]
