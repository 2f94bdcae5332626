use Rattle.std.proofs.Common.{rules, not, ap, ◌∙◌}
use Rattle.std.specs.Ordering.{int_eq}
use Rattle.std.proofs.lemmas.Fn.{filter_same}
use Rattle.lin_object.specs.Pairs.{without_key}
use Rattle.lin_object.specs.declared.pairs.Pair.{Pair}
use Rattle.lin_object.proofs.pairs.Pairs.without_key.Goals as goal

pub returns : goal.returns
returns c =
    filter_same _ (λ (pair : Pair). not (int_eq pair.key c.args.key)) _ (λ x b f' k. search rules) _ _ c.retain.ensures.filtered
    ∙ ap (λ ps. without_key c.args.key ps) (search rules)
