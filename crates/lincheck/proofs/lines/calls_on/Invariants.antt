use Rattle.lincheck.proofs.ReportLemmas.{Counted}
use Rattle.lincheck.proofs.lines.calls_on.Given as goal

abbrev pub invariant-loop-index : goal.invariant-loop-index
invariant-loop-index l = Counted l.history l.object l.count l.index
