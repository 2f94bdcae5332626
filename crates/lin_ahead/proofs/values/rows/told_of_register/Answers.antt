use Rattle.std.proofs.Common.{◌≡◌, ◌∙◌, ap, rules, w64, to_z, of_z, FitsSigned}
use Rattle.std.proofs.lemmas.Int.{to_z-of_z}
use Rattle.lin_history.specs.Problems.Needs.{NeedNumbers}
use Rattle.lin_ahead.proofs.values.NarrowedLemmas.{right_rows}
use Rattle.lin_ahead.proofs.values.VainLemmas.{are_cluster_numbers}
use Rattle.lin_ahead.proofs.values.rows.told_of_register.Goals as goal

pub are_in_vain-requires : goal.are_in_vain-requires
are_in_vain-requires c = rw (c.as_slice-rows.ensures.value, c.as_slice-numbers.ensures.value) (rw c.as_slice-rows.ensures.value at c.in_ok-row.ensures)

pub returns : goal.returns
returns c = record {
  owners = (
      let fits : FitsSigned w64 c.args.start.now = search rules in
      let passed : to_z w64 (of_z w64 c.args.start.now) ≡ c.args.start.now = to_z-of_z w64 c.args.start.now fits in
      c.in_ok-narrow.ensures.0 c.args.start.now (right_rows c.args.calls.now c.args.start.now _ (rw passed at c.in_ok-owners.ensures.told)));
  few = c.in_ok-narrow.ensures.1 c.in_ok-owners.ensures.few;
  numbers = are_cluster_numbers c.args.calls.now _ c.in_ok-row.row.items (rw c.as_slice-rows.ensures.value at c.in_ok-row.ensures) _ (ap (λ (rows : NeedNumbers). rows.by) c.new.ensures ∙ rw c.as_slice-numbers.ensures.value at c.in_ok-by.ensures) (ap (λ (rows : NeedNumbers). rows.from) c.new.ensures ∙ rw c.as_slice-numbers.ensures.value at c.in_ok-from.ensures);
  in_vain = rw c.as_slice-rows.ensures.value at c.in_ok-in_vain.ensures.is;
  in_vain_told = rw c.as_slice-rows.ensures.value at c.in_ok-in_vain.ensures.told;
}
