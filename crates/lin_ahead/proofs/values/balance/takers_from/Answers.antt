use Rattle.std.proofs.Common.{◌+◌, ℕ, List, sym, subst}
use Rattle.lin_ahead.proofs.values.BalanceLemmas.{AreTakersTo, taker_more, taker_same}
use Rattle.lin_ahead.proofs.values.balance.takers_from.Goals as goal
use Rattle.lin_ahead.proofs.values.balance.takers_from.Goals.{then-takes_from+in_ok-push, else-takes_from}

pub loop-call-preserved : goal.loop-call-preserved
loop-call-preserved c =
    elim c.if-takes_from.branch [
      | then-takes_from+in_ok-push w ↦ rw w.takers-is (subst (λ (l : List ℕ). AreTakersTo c.args.calls.now c.args.rows.now c.args.makers.now (c.loop-call.call + 1) l) (sym w.in_ok-push.ensures.items)
          (taker_more c.args.calls.now c.args.rows.now c.args.makers.now c.loop-call.call c.loop-call.takers.items (c.takes_from.ensures w.if-takes_from.true) c.loop-call.invariant))
      | else-takes_from w ↦ rw w.takers-is (taker_same c.args.calls.now c.args.rows.now c.args.makers.now c.loop-call.call c.loop-call.takers.items c.loop-call.invariant)
    ]

pub returns-clause-distinct : goal.returns-clause-distinct
returns-clause-distinct c = c.loop-call.invariant.distinct

pub returns-clause-each : goal.returns-clause-each
returns-clause-each c = λ g there. (c.loop-call.invariant.each g there).1
