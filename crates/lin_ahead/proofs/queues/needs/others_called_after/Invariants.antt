use Rattle.std.proofs.Common.{◌≡◌, ℕ, ◌<◌, false, Some}
use Rattle.std.specs.Prelude.{slice_get}
use Rattle.lin_history.specs.Problems.Problem.{problem_of}
use Rattle.lin_history.specs.Problems.Continuations.{has}
use Rattle.lin_ahead.specs.Behind.{CalledAfter}
use Rattle.lin_ahead.proofs.queues.needs.others_called_after.Given as goal

-- so it is of the calls so far
abbrev pub invariant-loop-call : goal.invariant-loop-call
invariant-loop-call g l = (i c : ℕ) → i < l.call-index → slice_get l.calls i ≡ Some c → has l.config.lifted c ≡ false → CalledAfter (problem_of g.O.SeqObject.after g.O.State.PartialEq.eq g.O.Reply.PartialEq.eq l.problem) l.event c
