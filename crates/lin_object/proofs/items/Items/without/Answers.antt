use Rattle.std.proofs.Common.{rules, not, ap, ◌∙◌}
use Rattle.std.specs.Ordering.{int_eq}
use Rattle.std.proofs.lemmas.Fn.{filter_same}
use Rattle.lin_object.specs.Items.{without_item}
use Rattle.lin_object.proofs.items.Items.without.Goals as goal

pub returns : goal.returns
returns c =
    c.of.ensures ∙ filter_same _ (λ x. not (int_eq x c.args.item)) _ (λ x b f' k. search rules) _ _ c.retain.ensures.filtered
    ∙ ap (λ xs. without_item c.args.item xs) (search rules)
