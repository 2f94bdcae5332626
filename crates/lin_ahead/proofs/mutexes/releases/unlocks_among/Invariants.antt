use Rattle.lin_ahead.proofs.mutexes.ReleaseLemmas.{NoneAmong}
use Rattle.lin_ahead.proofs.mutexes.releases.unlocks_among.Given as goal

abbrev pub invariant-loop-call : goal.invariant-loop-call
invariant-loop-call l = NoneAmong l.problem l.process l.first l.call
