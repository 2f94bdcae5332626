use Rattle.lin_history.specs.Problems.Problem.{problem_of}
use Rattle.lin_search.specs.AlikeLemmas.{alike_reachable}
use Rattle.lin_search.specs.SameLemmas.{alike_itself}
use Rattle.lin_search.specs.CountLemmas.{has_stored, number_stored, number_at_most}
use Rattle.lin_search.proofs.own_search.search_over.Goals as goal

pub returns-clause-stored : goal.returns-clause-stored
returns-clause-stored g c = has_stored _ _ _ (rw c.search_root.ensures.memo.problem at c.count-stored.ensures.store) c.count-stored.ensures.count

pub returns-clause-at_most : goal.returns-clause-at_most
returns-clause-at_most g c =
    λ n number.
    number_at_most (problem_of g.O.SeqObject.after g.O.State.PartialEq.eq g.O.Reply.PartialEq.eq c.args.memo.now.problem) c.lawful.ensures.states (alike_reachable (alike_itself c.lawful.ensures c.args.memo.now.problem)) _ n
    (has_stored _ _ _ (rw c.search_root.ensures.memo.problem at c.count-stored.ensures.store) c.count-stored.ensures.count) number

pub returns-clause-each : goal.returns-clause-each
returns-clause-each g c = rw c.problem.ensures at c.in_ok-outcome.ensures.all

pub returns-clause-all : goal.returns-clause-all
returns-clause-all g c =
    λ refuted closed. number_stored _ _ _ (rw c.search_root.ensures.memo.problem at c.count-stored.ensures.store) c.count-stored.ensures.count ((rw c.problem.ensures at c.in_ok-outcome.ensures.all) refuted closed)

pub returns-clause-count : goal.returns-clause-count
returns-clause-count g c = c.count-stored.ensures.count
