use Rattle.std.proofs.Common.{◌≡◌, length}
use Rattle.lincheck.proofs.Bytes.{IsWritten}
use Rattle.lincheck.proofs.pipeline.write_answer.Given as goal

abbrev pub invariant-pieces : goal.invariant-pieces
invariant-pieces g l = record {
  written : IsWritten (g.W.Sink.contents l.fn.sink) (g.W.Sink.contents l.sink) l.answer l.rest;
  failed : g.W.Sink.failed l.sink ≡ g.W.Sink.failed l.fn.sink;
}

abbrev pub decreases-pieces : goal.decreases-pieces
decreases-pieces g l = length l.rest
