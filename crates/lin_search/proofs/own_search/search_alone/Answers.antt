use Rattle.std.proofs.Common.{refl}
use Rattle.lin_history.specs.Problems.Problem.{problem_of}
use Rattle.lin_search.proofs.MemoLemmas.{closed_empty}
use Rattle.lin_search.proofs.PathLemmas.{ok_map}
use Rattle.lin_search.proofs.own_search.search_alone.Goals as goal

pub returns-clause-at_most : goal.returns-clause-at_most
returns-clause-at_most g c = rw c.new.ensures at c.search_over.ensures.at_most

pub returns-clause-all : goal.returns-clause-all
returns-clause-all g c =
    ok_map _ _ c.search_over.result (λ r k refuted. k refuted (closed_empty (problem_of g.O.SeqObject.after g.O.State.PartialEq.eq g.O.Reply.PartialEq.eq c.args.problem.now) _ refl)) (rw c.new.ensures at c.search_over.ensures.all)
