use Rattle.lin_tests.proofs.JoinLemmas.{only_one}
use Rattle.lin_tests.proofs.tests.refusals.histories.joins_in_turn.Goals as goal

pub refusals_of_a_join-requires-clause-each : goal.refusals_of_a_join-requires-clause-each
refusals_of_a_join-requires-clause-each c =
    only_one c.in-Ok.history c.in-Some.order (rw c.in-Some.is at c.in_ok-order.ensures)
