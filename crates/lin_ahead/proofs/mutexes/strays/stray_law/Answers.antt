use Rattle.lin_ahead.proofs.mutexes.StrayLemmas.{no_stray}
use Rattle.lin_ahead.proofs.mutexes.strays.stray_law.Goals as goal

pub returns : goal.returns
returns c = no_stray c.args.problem.now c.requires
