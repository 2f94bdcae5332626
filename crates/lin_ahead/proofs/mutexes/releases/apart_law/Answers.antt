use Rattle.lin_ahead.proofs.mutexes.SectionLemmas.{none_together}
use Rattle.lin_ahead.proofs.mutexes.releases.apart_law.Goals as goal

pub returns : goal.returns
returns c = none_together c.args.problem.now c.requires
