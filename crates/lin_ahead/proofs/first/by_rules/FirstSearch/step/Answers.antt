use Rattle.std.proofs.Common.{rules}
use Rattle.lin_ahead.proofs.first.by_rules.FirstSearch.step.Goals as goal

pub go_back-requires : goal.go_back-requires
go_back-requires g c = search rules depth 3
