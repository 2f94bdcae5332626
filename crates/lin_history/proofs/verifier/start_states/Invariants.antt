use Rattle.std.proofs.Common.{◌≡◌, map, take}
use Rattle.lin_history.specs.Recorder.Parts.{start_of}
use Rattle.lin_history.proofs.verifier.start_states.Given as goal

abbrev pub invariant-loop-object : goal.invariant-loop-object
invariant-loop-object l = l.states.items ≡ map start_of (take l.object l.history.objects)
