use Rattle.lin_decide.proofs.keys.AnswerLemmas.{within_part}
use Rattle.lin_decide.proofs.keys.part_order.order_of_part.Goals as goal

pub full_order-requires : goal.full_order-requires
full_order-requires g c = within_part c.args.problem.now c.in_ok-part.part c.in_ok-part.ensures.start c.args.kept.now c.in_ok-part.ensures.part c.in-Found.order (rw c.in-Found.is at c.in_ok-order.ensures.told).0
