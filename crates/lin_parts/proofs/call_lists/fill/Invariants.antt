use Rattle.lin_parts.specs.Parts.{IsFilled}
use Rattle.lin_parts.proofs.call_lists.fill.Given as goal

abbrev pub invariant-loop-c : goal.invariant-loop-c
invariant-loop-c l = IsFilled l.c l.fn.calls.items l.calls.items
