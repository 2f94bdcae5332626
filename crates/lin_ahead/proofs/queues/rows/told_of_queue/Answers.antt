use Rattle.std.proofs.Common.{◌∙◌, ap}
use Rattle.lin_history.specs.Problems.Needs.{NeedNumbers}
use Rattle.lin_ahead.specs.Items.ItemCalls.{least_pending}
use Rattle.lin_ahead.specs.Items.CallNumbers.{by_row, from_row}
use Rattle.lin_ahead.specs.Queues.ToldOfQueue.{taken_row}
use Rattle.lin_ahead.proofs.stacks.PopperLemmas.{told_row}
use Rattle.lin_ahead.proofs.queues.rows.told_of_queue.Goals as goal

pub returns-clause-by : goal.returns-clause-by
returns-clause-by c = ap (λ (rows : NeedNumbers). rows.by) c.new.ensures ∙ (c.in_ok-by.ensures ∙ told_row by_row _ _ _ c.in_ok-items.ensures.told)

pub returns-clause-from : goal.returns-clause-from
returns-clause-from c =
    ap (λ (rows : NeedNumbers). rows.from) c.new.ensures ∙ (c.in_ok-from.ensures ∙ told_row (λ told calls. from_row told (least_pending calls) calls) _ _ _ c.in_ok-items.ensures.told)

pub returns-clause-taken : goal.returns-clause-taken
returns-clause-taken c = c.in_ok-taken_row.ensures ∙ told_row taken_row _ _ _ c.in_ok-items.ensures.told

pub returns-clause-late : goal.returns-clause-late
returns-clause-late c = record {
  from = c.in_ok-late.ensures.from ∙ c.as_slice.ensures.value ∙ (c.in_ok-from.ensures ∙ told_row (λ told calls. from_row told (least_pending calls) calls) _ _ _ c.in_ok-items.ensures.told);
  poppers = c.in_ok-late.ensures.poppers;
  found_empty = c.in_ok-late.ensures.found_empty;
}
