use Rattle.std.proofs.Common.{◌≡◌, ◌+◌, ◌*◌, ◌^◌, ◌≤◌, drop}
use Rattle.lin_core.specs.Sums.{may_come, sum_of}
use Rattle.lin_core.proofs.sum_faults.Between.sum_that_may.Given as goal

abbrev pub invariant-loop-call : goal.invariant-loop-call
invariant-loop-call l = record {
  rest : l.sum + sum_of (may_come l.self) l.up (drop l.call-index l.calls) ≡ sum_of (may_come l.self) l.up l.calls;
  few : l.sum ≤ 2 ^ 63 * l.call-index;
}
