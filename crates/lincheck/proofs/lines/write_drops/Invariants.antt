use Rattle.std.proofs.Common.{string_bytes}
use Rattle.lincheck.proofs.ReportLemmas.{DropsWritten}
use Rattle.lincheck.proofs.lines.write_drops.Given as goal

abbrev pub invariant-loop-index : goal.invariant-loop-index
invariant-loop-index l = DropsWritten l.history l.order (string_bytes l.fn.out) (string_bytes l.out) l.index
