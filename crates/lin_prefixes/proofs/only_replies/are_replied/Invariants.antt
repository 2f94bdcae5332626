use Rattle.std.proofs.Common.{◌<◌, ℕ}
use Rattle.lin_history.specs.Problems.AnyProblem.{any_problem}
use Rattle.lin_prefixes.specs.OnlyReplies.{IsReplied}
use Rattle.lin_prefixes.proofs.only_replies.are_replied.Given as goal

abbrev pub invariant-loop-call : goal.invariant-loop-call
invariant-loop-call l = (c : ℕ) → c < l.call → IsReplied (any_problem l.problem) (any_problem l.other) c
