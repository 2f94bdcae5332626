use Rattle.std.proofs.Common.{sym, ◌∙◌, ap, subst, length, ℕ, List, Option}
use Rattle.lin_ahead.specs.Stacks.ToldOfStack.{ArePoppers}
use Rattle.lin_ahead.proofs.stacks.PopperLemmas.{count_more, poppers_more}
use Rattle.lin_ahead.proofs.stacks.rows.poppers_row.Goals as goal

pub loop-push-preserved : goal.loop-push-preserved
loop-push-preserved c = record {
  count = ap length c.in_ok-push.ensures.items ∙ count_more c.loop-push.row.items c.loop-push.push c.popper_of.result c.loop-push.invariant.count;
  poppers = subst (λ (row : List (Option ℕ)). ArePoppers c.args.calls.now row) (sym c.in_ok-push.ensures.items) (poppers_more c.args.calls.now c.loop-push.row.items c.loop-push.push c.popper_of.result c.loop-push.invariant.count c.loop-push.invariant.poppers c.popper_of.ensures);
}
