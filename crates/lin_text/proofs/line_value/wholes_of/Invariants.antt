use Rattle.std.proofs.Common.{◌≡◌, drop}
use Rattle.serde_json.specs.View.{items_view}
use Rattle.lin_text.specs.Fields.{wholes}
use Rattle.lin_text.proofs.WholeNumberLemmas.{with_front}
use Rattle.lin_text.proofs.line_value.wholes_of.Given as goal

abbrev pub invariant-loop-item : goal.invariant-loop-item
invariant-loop-item l = with_front l.found.items (wholes (items_view (drop l.item-index l.list))) ≡ wholes (items_view l.list)
