use Rattle.lin_search.specs.NeedlessLemmas.{ends_the_list, leaves_states}
use Rattle.lin_search.proofs.needless_calls.ends_the_list.Goals as goal

pub returns-clause-leaves : goal.returns-clause-leaves
returns-clause-leaves g c told = leaves_states c.lawful.ensures c.args.problem.now c.args.call _ c.call-taken.ensures (rw c.object.ensures at (c.changes_nothing.ensures told))

pub returns-clause-list : goal.returns-clause-list
returns-clause-list g c told = λ set s t i more first is_next tried up searched.
    ends_the_list c.lawful.ensures c.args.problem.now c.args.call _ c.call-taken.ensures (rw c.object.ensures at (c.changes_nothing.ensures told)) set s t i more first is_next tried up searched
