use Rattle.std.proofs.Common.{map}
use Rattle.lin_history.specs.Recorder.Views.{call_view}
use Rattle.lin_history.proofs.RecorderLemmas.NumberingLemmas.{IsNumbering}
use Rattle.lin_history.proofs.recorder.builder.number_calls.Given as goal

abbrev pub invariant-loop-call : goal.invariant-loop-call
invariant-loop-call l = IsNumbering (map call_view l.fn.calls) l.calls l.counts l.call
