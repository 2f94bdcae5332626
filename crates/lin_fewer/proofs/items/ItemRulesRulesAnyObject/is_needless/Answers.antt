use Rattle.std.proofs.Common.{◌≡◌, ◌∙◌, length, rules, w64, to_z, of_z}
use Rattle.std.specs.Ordering.{int_eq}
use Rattle.indexmap.specs.IndexMap.{get}
use Rattle.lin_history.specs.Problems.AnyProblem.{any_problem}
use Rattle.lin_fewer.specs.Items.{AreEndsTo}
use Rattle.lin_fewer.proofs.ItemLemmas.{needless, returned_within}
use Rattle.lin_fewer.proofs.items.ItemRulesRulesAnyObject.is_needless.Goals as goal

pub returns : goal.returns
returns c =
    let same : to_z w64 (of_z w64 c.in-Some.item) ≡ c.in-Some.item = search rules in
    λ yes. needless c.args.waiting.now (rw c.problem-problem.ensures at c.fewer_law.ensures) (λ s. c.lawful.ensures.states.refl s) c.in-Some.item c.args.config.now c.args.pending c.requires.reachable.flags c.requires.pending (rw (c.in-Some.is, c.problem-problem.ensures) at c.item_added.ensures) (rw (same, c.problem-problem.ensures, c.lifted.ensures) at (c.nobody_takes.ensures yes))

pub nobody_takes-requires-clause-end : goal.nobody_takes-requires-clause-end
nobody_takes-requires-clause-end c =
    let same : to_z w64 (of_z w64 c.in-Some.item) ≡ c.in-Some.item = search rules in
    let all : AreEndsTo (any_problem c.args.waiting.now) (get int_eq c.self.inside.ends) (length c.args.waiting.now.calls) = rw (c.self.view_is ∙ c.requires.suits) at c.self.invariant in
    rw (c.problem-problem.ensures, c.noted-end.ensures, same) (λ d h. all c.in-Some.item d (returned_within c.args.waiting.now d c.in-Some.item h) h)
