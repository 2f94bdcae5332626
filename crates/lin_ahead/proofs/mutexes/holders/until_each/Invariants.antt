use Rattle.std.proofs.Common.{◌≡◌, ◌≤◌, length, nat_eq}
use Rattle.indexmap.specs.IndexMap.{get}
use Rattle.lin_history.specs.Problems.AnyProblem.{any_problem}
use Rattle.lin_ahead.proofs.mutexes.HolderLemmas.{AreFirstFrom, AreHeldFrom}
use Rattle.lin_ahead.proofs.mutexes.holders.until_each.Given as goal

abbrev pub invariant-loop-left : goal.invariant-loop-left
invariant-loop-left l = record {
  within : l.left ≤ length l.problem.calls;
  count : length l.row.items ≡ length l.problem.calls;
  first : AreFirstFrom (any_problem l.problem) l.left (get nat_eq l.next);
  held : AreHeldFrom (any_problem l.problem) l.left l.row.items;
}

abbrev pub decreases-loop-left : goal.decreases-loop-left
decreases-loop-left l = l.left
