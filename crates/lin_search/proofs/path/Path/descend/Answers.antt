use Rattle.std.proofs.Common.{rules}
use Rattle.lin_search.proofs.path.Path.descend.Goals as goal

pub returns-clause-frames : goal.returns-clause-frames
returns-clause-frames g c = search rules depth 3
