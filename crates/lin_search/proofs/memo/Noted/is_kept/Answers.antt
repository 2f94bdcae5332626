use Rattle.std.proofs.Common.{rules}
use Rattle.lin_search.proofs.memo.Noted.is_kept.Goals as goal

pub returns-in-Busy : goal.returns-in-Busy
returns-in-Busy c = search rules depth 3
