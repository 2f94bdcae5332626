use Rattle.std.proofs.Common.{◌≡◌, [], drop}
use Rattle.lin_explain.specs.ExplanationText.{keys_with}
use Rattle.lin_explain.proofs.explanation_text.asked_keys.Given as goal

abbrev pub invariant-loop-one : goal.invariant-loop-one
invariant-loop-one l = keys_with l.calls l.keys (drop l.one-index l.next) ≡ keys_with l.calls [] l.next
