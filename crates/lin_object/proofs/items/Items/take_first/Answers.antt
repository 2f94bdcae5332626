use Rattle.std.proofs.Common.{rules}
use Rattle.lin_object.proofs.EditLemmas.{drop_more}
use Rattle.lin_object.proofs.items.Items.take_first.Goals as goal

pub returns-then-self-len : goal.returns-then-self-len
returns-then-self-len c = let e = drop_more c.self.inside.room c.self.inside.items.items in search rules
