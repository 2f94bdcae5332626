use Rattle.std.proofs.Common.{◌≡◌, ◌≤◌, ◌+◌, drop}
use Rattle.lin_core.specs.Emptied.{count_puts}
use Rattle.lin_core.proofs.emptied.count_puts.Given as goal

-- those so far, with those of the calls that are left; and they are at most as many as the calls so far
abbrev pub invariant-loop-call : goal.invariant-loop-call
invariant-loop-call l = record {
  all : count_puts l.problem.calls l.item (drop l.call-index l.these) + l.count ≡ count_puts l.problem.calls l.item l.these;
  few : l.count ≤ l.call-index;
}
