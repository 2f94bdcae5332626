use Rattle.std.proofs.Common.{◌≡◌, ◌+◌, ◌*◌, ◌%◌, ◌^◌, ◌≤◌, length, drop}
use Rattle.lin_table.specs.declared.hand.TheConstants.{MAX_STORED}
use Rattle.lin_table.specs.Gather.{entries_in}
use Rattle.lin_table.proofs.end.stored_by.Given as goal

-- what was added so far, and what is left
abbrev pub invariant-loop-hand : goal.invariant-loop-hand
invariant-loop-hand g l = record {
  sum : (l.stored + length (entries_in (drop l.hand-index l.hands))) % 2 ^ 64 ≡ length (entries_in l.hands) % 2 ^ 64;
  few : length (entries_in l.hands) ≤ l.hand-index * MAX_STORED + length (entries_in (drop l.hand-index l.hands));
}
