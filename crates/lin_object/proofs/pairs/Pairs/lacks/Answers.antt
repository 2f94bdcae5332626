use Rattle.std.proofs.Common.{rules}
use Rattle.std.specs.Ordering.{int_eq}
use Rattle.lin_object.specs.declared.pairs.Pair.{Pair}
use Rattle.lin_object.proofs.EditLemmas.{kept_all}
use Rattle.lin_object.proofs.pairs.Pairs.lacks.Goals as goal

pub returns : goal.returns
returns c lacks = kept_all (λ (pair : Pair). int_eq pair.key c.args.key) c.args.self.now (search rules)
