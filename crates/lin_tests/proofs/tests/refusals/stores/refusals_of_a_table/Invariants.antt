use Rattle.lin_table.specs.Hand.{IsHandOf}
use Rattle.lin_tests.proofs.tests.refusals.stores.refusals_of_a_table.Given as goal

abbrev pub invariant-loop-step : goal.invariant-loop-step
invariant-loop-step l = IsHandOf l.table l.hand
