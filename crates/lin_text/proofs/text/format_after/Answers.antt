use Rattle.std.proofs.Common.{rules}
use Rattle.lin_text.proofs.text.format_after.Goals as goal

pub returns-in-Two : goal.returns-in-Two
returns-in-Two c = search rules depth 3
