use Rattle.std.proofs.Common.{◌≡◌, drop}
use Rattle.lin_explain.specs.CoreText.{last_event}
use Rattle.lin_explain.proofs.core_text.last_event.Given as goal

abbrev pub invariant-loop-one : goal.invariant-loop-one
invariant-loop-one l = last_event l.calls l.last (drop l.one-index l.core) ≡ last_event l.calls 0 l.core
