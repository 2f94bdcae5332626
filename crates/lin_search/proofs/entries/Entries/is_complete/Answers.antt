use Rattle.std.proofs.Common.{sym, ◌∙◌}
use Rattle.lin_history.specs.Problems.Problem.{problem_of}
use Rattle.lin_search.specs.CallSet.{lifted_set}
use Rattle.std.proofs.lemmas.Bool.{eq-eqb, eqb-true}
use Rattle.lin_search.proofs.EntriesLemmas.{all_completed, none_left, set_length}
use Rattle.lin_search.proofs.entries.Entries.is_complete.Goals as goal

pub returns : goal.returns
returns g c =
    let p = problem_of g.O.SeqObject.after g.O.State.PartialEq.eq g.O.Reply.PartialEq.eq c.self.inside.problem.now in
    let l = c.self.inside.lifted.items in
    rw (← c.self.view_is) (
      λ e. all_completed p (lifted_set p l) (set_length p l) (sym c.self.invariant.count ∙ eqb-true c.self.inside.left 0 e),
      λ h. eq-eqb c.self.inside.left 0 (c.self.invariant.count ∙ none_left p (lifted_set p l) (set_length p l) h),
    )
