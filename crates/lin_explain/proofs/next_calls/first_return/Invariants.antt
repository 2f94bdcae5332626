use Rattle.lin_explain.specs.FirstReturn.{IsFirstReturn}
use Rattle.lin_explain.proofs.next_calls.first_return.Given as goal

abbrev pub invariant-loop-number : goal.invariant-loop-number
invariant-loop-number l = IsFirstReturn l.calls l.flags l.number l.first
