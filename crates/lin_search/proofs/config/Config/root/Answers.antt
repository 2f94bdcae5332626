use Rattle.std.proofs.Common.{◌∙◌}
use Rattle.lin_search.specs.ReachableLemmas.{reachable_root}
use Rattle.lin_search.proofs.config.Config.root.Goals as goal

pub returns-clause-reachable : goal.returns-clause-reachable
returns-clause-reachable g c =
    let same = c.lawful.ensures.states.symm c.args.problem.now.start c.in_ok-copy_state.field-0 ∙ (rw c.start.ensures at c.in_ok-copy_state.ensures.copy) in
    rw (c.in_ok-none.ensures, c.calls.ensures.calls) (reachable_root _ _ same)
