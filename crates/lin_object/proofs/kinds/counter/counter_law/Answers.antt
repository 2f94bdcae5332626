use Rattle.lin_object.proofs.kinds.CounterLemmas.{counter_keeps}
use Rattle.lin_object.proofs.kinds.counter.counter_law.Goals as goal

pub returns : goal.returns
returns c = counter_keeps
