use Rattle.std.specs.Ordering.{int_eq}
use Rattle.indexmap.specs.IndexMap.{get}
use Rattle.lin_history.specs.Problems.AnyProblem.{any_problem}
use Rattle.lin_fewer.specs.Items.{AreEndsTo}
use Rattle.lin_fewer.proofs.items.ItemRules.of.Given as goal

abbrev pub invariant-loop-call : goal.invariant-loop-call
invariant-loop-call l = AreEndsTo (any_problem l.problem) (get int_eq l.ends) l.call
