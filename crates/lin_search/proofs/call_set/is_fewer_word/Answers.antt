use Rattle.std.proofs.Common.{eqb-true}
use Rattle.lin_search.proofs.FewerLemmas.{fewer_word}
use Rattle.lin_search.proofs.call_set.is_fewer_word.Goals as goal

pub returns-then-a-b : goal.returns-then-a-b
returns-then-a-b c = λ yes. fewer_word c.args.a c.args.b c.args.of c.if-a-b.true (eqb-true _ _ yes)
