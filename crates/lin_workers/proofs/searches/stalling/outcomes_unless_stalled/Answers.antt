use Rattle.std.proofs.Common.{◌≡◌, ◌∙◌, sym, subst, Continue, ControlFlow}
use Rattle.lin_history.specs.Problems.Problem.{problem_of}
use Rattle.lin_workers.specs.Outcomes.{AreOutcomes}
use Rattle.lin_workers.proofs.RunLemmas.{leads_reachable}
use Rattle.lin_workers.proofs.LevelLemmas.{item_at, task_at}
use Rattle.lin_workers.proofs.OutcomeLemmas.{has_first, outcome_placed, outcomes_none, written}
use Rattle.lin_workers.proofs.searches.stalling.outcomes_unless_stalled.Goals as goal

pub search_until_stalled-requires-clause-reachable : goal.search_until_stalled-requires-clause-reachable
search_until_stalled-requires-clause-reachable g c κs sync =
    let at = item_at c.args.tasks.now 0 c.index-tasks-0.result (has_first _ c.requires.1.some) c.index-tasks-0.is in
    leads_reachable _ _ _ _ (task_at _ _ _ _ _ c.requires.1.level.each at).least.0

-- two continuations are equal only where their values are
continues : {B C : Type 0} → {x y : C} → ◌≡◌ {A = ControlFlow B C} (Continue x) (Continue y) → x ≡ y
continues e = cc

pub returns-clause-outcomes : goal.returns-clause-outcomes
returns-clause-outcomes g c outcomes same =
    let p = problem_of g.O.SeqObject.after g.O.State.PartialEq.eq g.O.Reply.PartialEq.eq c.args.problem.now in
    let at = item_at c.args.tasks.now 0 c.index-tasks-0.result (has_first _ c.requires.1.some) c.index-tasks-0.is in
    let before = outcomes_none p c.args.tasks.now c.args.bounds.now.limit c.as_mut_slice.result.now (c.as_mut_slice.ensures.value ∙ c.in_ok-outcomes.ensures) in
    let after = outcome_placed p c.args.bounds.now.limit c.args.tasks.now _ c.place_value.new.outcomes 0 c.index-tasks-0.result (λ told. Unit {0}) c.in_ok-outcome.outcome at c.in_ok-outcome.ensures.answer c.place_value.ensures before in
    subst (λ o. AreOutcomes p c.args.tasks.now c.args.bounds.now.limit o.items) (continues same) (subst (AreOutcomes p c.args.tasks.now c.args.bounds.now.limit) (sym (written _ c.place_value.new.outcomes _ (after.places ∙ sym before.places ∙ c.as_mut_slice.ensures.len))) after)
