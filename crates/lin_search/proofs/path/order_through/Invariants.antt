use Rattle.std.proofs.Common.{◌≡◌, take}
use Rattle.lin_search.specs.Path.{kept_calls}
use Rattle.lin_search.proofs.path.order_through.Given as goal

abbrev pub invariant-loop-frame : goal.invariant-loop-frame
invariant-loop-frame g l = l.calls.items ≡ kept_calls (take l.frame-index l.frames)
