use Rattle.std.proofs.Common.{rules, refl}
use Rattle.lin_object.proofs.EditLemmas.{drop_insert}
use Rattle.lin_object.proofs.items.Items.put_in_again.Goals as goal

pub returns-clause-done : goal.returns-clause-done
returns-clause-done c = let e = drop_insert c.self.inside.room c.self.inside.items.items _ c.args.place c.args.item refl c.self.invariant in search rules
