use Rattle.std.proofs.Common.{string_bytes}
use Rattle.lincheck.proofs.EachLemmas.{StatusesWritten}
use Rattle.lincheck.proofs.each.write_statuses.Given as goal

abbrev pub invariant-loop-object : goal.invariant-loop-object
invariant-loop-object l = StatusesWritten l.history l.statuses (string_bytes l.fn.out) (string_bytes l.out) l.object
