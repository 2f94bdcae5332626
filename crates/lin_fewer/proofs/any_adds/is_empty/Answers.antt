use Rattle.std.proofs.Common.{sym, ◌∙◌, eqb-true}
use Rattle.lin_fewer.proofs.AnyAddsLemmas.{none_counted}
use Rattle.lin_fewer.proofs.any_adds.is_empty.Goals as goal

pub returns : goal.returns
returns c = λ yes. none_counted c.args.layer.now (eqb-true _ _ (sym c.is_empty.ensures ∙ yes))
