use Rattle.std.proofs.Common.{◌≡◌, ◌+◌, ◌≤◌, drop}
use Rattle.lin_search.specs.EntryLinks.{count_completed}
use Rattle.lin_search.proofs.entries.completed_calls.Given as goal

-- those so far, and those that are left
abbrev pub invariant-loop-call : goal.invariant-loop-call
invariant-loop-call g l = (l.count ≤ l.call) × (l.count + count_completed (drop l.call l.problem.calls) ≡ count_completed l.problem.calls)
