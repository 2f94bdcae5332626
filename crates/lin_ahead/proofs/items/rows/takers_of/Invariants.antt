use Rattle.std.proofs.Common.{◌≡◌, ◌++◌, drop}
use Rattle.lin_ahead.specs.Queues.ToldOfQueue.{takers_from}
use Rattle.lin_ahead.proofs.items.rows.takers_of.Given as goal

-- the takers so far, with those of the calls that are left
abbrev pub invariant-loop-call : goal.invariant-loop-call
invariant-loop-call l = l.takers.items ++ takers_from l.call (drop l.call l.calls) ≡ takers_from 0 l.calls
