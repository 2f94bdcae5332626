use Rattle.std.proofs.Common.{◌≡◌}
use Rattle.lin_prefixes.proofs.only_replies.with_only_replies.Given as goal

abbrev pub invariant-loop-call : goal.invariant-loop-call
invariant-loop-call l = l.other.start ≡ l.problem.start
