use Rattle.std.proofs.Common.{◌≡◌, drop}
use Rattle.lin_explain.specs.RunReplies.{with_run, replies_of}
use Rattle.lin_explain.proofs.run_explained.replies_of.Given as goal

abbrev pub invariant-loop-placed : goal.invariant-loop-placed
invariant-loop-placed l = with_run l.history l.replies.items (drop l.placed-index l.run) ≡ replies_of l.history l.calls l.run
