use Rattle.lin_tests.proofs.JoinLemmas.{of_part}
use Rattle.lin_tests.proofs.tests.refusals.histories.first_order.Goals as goal

pub returns-in-Found : goal.returns-in-Found
returns-in-Found c =
    let least = rw c.in-Found.is at c.in_ok-order.ensures.told in
    of_part c.args.history.now 0 _ _ c.in-Found.order c.in_ok-problem.ensures.start c.in_ok-problem.ensures.calls least.0
