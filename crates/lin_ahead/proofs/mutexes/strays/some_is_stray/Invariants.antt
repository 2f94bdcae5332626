use Rattle.std.specs.Prelude.{nat_eq}
use Rattle.indexmap.specs.IndexMap.{get}
use Rattle.lin_history.specs.Problems.AnyProblem.{any_problem}
use Rattle.lin_ahead.proofs.mutexes.HeldLemmas.{AreHeld, NoStrayTo}
use Rattle.lin_ahead.proofs.mutexes.strays.some_is_stray.Given as goal

abbrev pub invariant-loop-call : goal.invariant-loop-call
invariant-loop-call l = record {
  held : AreHeld (any_problem l.problem) l.call (get nat_eq l.held);
  none : NoStrayTo (any_problem l.problem) l.call;
}
