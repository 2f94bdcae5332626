use Rattle.lin_decide.proofs.keys.WholeLemmas.{none_by_keys}
use Rattle.lin_decide.proofs.keys.key_search.told_of_orders.Goals as goal

pub returns-in-Refuted-clause-told : goal.returns-in-Refuted-clause-told
returns-in-Refuted-clause-told c =
    let r = rw c.in-Refuted.is at c.requires.orders in
    none_by_keys c.args.problem.now c.args.known.now.keys.keys c.args.known.now.numbers.items c.requires.keys c.map_law.ensures c.set_law.ensures c.args.lists.now c.requires.calls r.0 r.1 r.2
