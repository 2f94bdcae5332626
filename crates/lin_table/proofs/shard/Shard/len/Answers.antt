use Rattle.std.proofs.Common.{length, ap, ◌∙◌}
use Rattle.lin_table.proofs.shard.Shard.len.Goals as goal

pub returns-clause-count : goal.returns-clause-count
returns-clause-count g c = c.count.ensures.count ∙ ap (λ s. length s.pairs) c.self.view_is
