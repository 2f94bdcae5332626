use Rattle.std.proofs.Common.{◌%◌, ap, ◌∙◌}
use Rattle.lin_table.specs.Home.{home_of}
use Rattle.lin_table.proofs.table.Table.home.Goals as goal

pub returns-clause-is : goal.returns-clause-is
returns-clause-is g c = ap (λ n. n % c.self.inside.shards) c.sum.ensures ∙ ap (λ t. home_of c.args.config.now.lifted t.shards) c.self.view_is
