use Rattle.std.proofs.Common.{◌≡◌, true, sym, ◌∙◌, subst, rules, w64, to_z, of_z}
use Rattle.std.specs.Prelude.{ℤ}
use Rattle.lin_object.specs.Items.{is_in}
use Rattle.lin_core.proofs.SinceLemmas.{one_in}
use Rattle.lin_core.proofs.begins_anew.is_only.Goals as goal

pub returns-then-values-eq1 : goal.returns-then-values-eq1
returns-then-values-eq1 c = λ yes.
    let same : to_z w64 (of_z w64 c.args.value) ≡ c.args.value = search rules in
    one_in c.args.values.now c.args.value c.if-values-eq1.true (subst (λ (v : ℤ). is_in v c.args.values.now ≡ true) same (sym c.has.ensures ∙ yes))
