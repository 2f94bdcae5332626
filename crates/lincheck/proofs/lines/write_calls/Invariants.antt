use Rattle.std.proofs.Common.{string_bytes}
use Rattle.lincheck.proofs.ReportLemmas.{CallsWritten}
use Rattle.lincheck.proofs.lines.write_calls.Given as goal

abbrev pub invariant-loop-index : goal.invariant-loop-index
invariant-loop-index l = CallsWritten l.history l.order l.before (string_bytes l.fn.out) (string_bytes l.out) l.index
