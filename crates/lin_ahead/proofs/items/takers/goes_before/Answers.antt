use Rattle.std.proofs.Common.{inl, rules}
use Rattle.lin_ahead.proofs.items.TakerLemmas.{among_value}
use Rattle.lin_ahead.proofs.items.takers.goes_before.Goals as goal

pub returns-then-has : goal.returns-then-has
returns-then-has c = λ has. inl (among_value c.args.item _ _ _ c.has.ensures has (search rules))
