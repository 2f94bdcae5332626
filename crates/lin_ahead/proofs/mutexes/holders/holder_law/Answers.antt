use Rattle.lin_ahead.proofs.mutexes.SectionLemmas.{stand_ins}
use Rattle.lin_ahead.proofs.mutexes.holders.holder_law.Goals as goal

pub returns : goal.returns
returns c = stand_ins c.args.problem.now c.requires c.calls-timed.ensures.timed
