use Rattle.lin_history.proofs.RecorderLemmas.NumberingLemmas.{AreClear}
use Rattle.lin_history.proofs.recorder.builder.clear.Given as goal

abbrev pub invariant-loop-index : goal.invariant-loop-index
invariant-loop-index l = AreClear l.index l.counts
