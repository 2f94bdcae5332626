use Rattle.std.proofs.Common.{◌≡◌, ◌++◌, drop}
use Rattle.lin_history.specs.Recorder.Parts.{part_calls}
use Rattle.lin_history.proofs.recorder.history.problem_at.Given as goal

-- the part so far, and what is left of it
abbrev pub invariant-loop-index : goal.invariant-loop-index
invariant-loop-index l = l.calls.items ++ drop l.index-index (part_calls l.history l.object) ≡ part_calls l.history l.object
