use Rattle.std.proofs.Common.{◌≡◌, map, take}
use Rattle.lin_explain.specs.RunReplies.{recorded_reply}
use Rattle.lin_explain.proofs.run_explained.recorded_replies.Given as goal

abbrev pub invariant-loop-call : goal.invariant-loop-call
invariant-loop-call l = l.replies.items ≡ map recorded_reply (take l.call-index l.calls)
