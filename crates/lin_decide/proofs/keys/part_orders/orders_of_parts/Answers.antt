use Rattle.std.proofs.Common.{ℕ, List, ◌+◌, ◌∙◌, ap, length, subst, sym}
use Rattle.lin_history.specs.Problems.AnyProblem.{any_problem}
use Rattle.lin_decide.specs.Keys.Merging.{order_at}
use Rattle.lin_decide.specs.Keys.PartOrder.{IsFullOrder}
use Rattle.lin_parts.specs.Parts.{AreSomeCalls}
use Rattle.lin_decide.proofs.keys.GroupLemmas.{one_longer, orders_more}
use Rattle.lin_decide.proofs.keys.AnswerLemmas.{spent_more}
use Rattle.lin_decide.proofs.keys.part_orders.orders_of_parts.Goals as goal

pub loop-key-preserved : goal.loop-key-preserved
loop-key-preserved g c = record {
  count = ap length c.in_ok-push-in-Found.ensures.items ∙ one_longer _ _ ∙ ap (λ (n : ℕ). n + 1) c.loop-key.invariant.count;
  stop = g.met.S.Stop.chained _ _ _ c.loop-key.invariant.stop c.order_of_part.ensures.stop;
  each = orders_more (λ (k : ℕ) (o : List ℕ). IsFullOrder (any_problem c.args.problem.now) (order_at c.args.lists.now k) o) c.loop-key.orders.items c.push.new.self.items c.in-Found.order c.loop-key.key c.loop-key.invariant.count c.in_ok-push-in-Found.ensures.items c.loop-key.invariant.each (rw (c.in-Found.is, c.calls_at-kept.ensures) at c.in_ok-order.ensures.told);
}

pub returns-in-Refuted-clause-told : goal.returns-in-Refuted-clause-told
returns-in-Refuted-clause-told g c = (c.loop-key.key, c.loop-key-test.true, rw (c.in-Refuted.is, c.calls_at-kept.ensures) at c.in_ok-order.ensures.told)

pub order_of_part-requires : goal.order_of_part-requires
order_of_part-requires g c = subst (AreSomeCalls (any_problem c.args.problem.now)) (sym c.calls_at-kept.ensures) (c.requires c.loop-key.key c.loop-key-test.true)

pub returns-in-Nothing-clause-nothing : goal.returns-in-Nothing-clause-nothing
returns-in-Nothing-clause-nothing g c = (
  c.loop-key.key,
  c.loop-key-test.true,
  spent_more (any_problem c.args.problem.now) (order_at c.args.lists.now c.loop-key.key) c.args.limit _ _
      (λ n told. (c.order_of_part.new.stop, g.met.S.Stop.chained _ _ _ c.loop-key.invariant.stop c.order_of_part.ensures.stop, g.met.S.Stop.unchanged _, told))
      (rw (c.in-Nothing.is, c.calls_at-kept.ensures) at c.in_ok-order.ensures.nothing),
)
