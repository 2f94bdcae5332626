use Rattle.std.proofs.Common.{◌∙◌, ap, List, ℕ, ◌++◌, ◌∷◌, []}
use Rattle.lin_search.specs.SameLemmas.{alike_itself}
use Rattle.lin_workers.proofs.LevelLemmas.{child_none, child_known, child_new, absent_by}
use Rattle.lin_workers.proofs.tasks.level.add_child.Goals as goal

pub returns-in_default : goal.returns-in_default
returns-in_default g c = record {
  filled = λ k i parents level at f. child_none _ (alike_itself c.lawful.ensures c.args.problem.now) c.args.parent.now _ c.parent.view_is c.args.call (rw c.in_default.is at c.in_ok-config.ensures.none) _ k i parents at f;
}

pub returns-then-is_among : goal.returns-then-is_among
returns-then-is_among g c =
    let some = rw c.in-Some.is at c.in_ok-config.ensures.some in
    let there = rw c.as_slice.ensures.value at (c.is_among.ensures.0 c.if-is_among.true) in
    record {
      filled = λ k i parents level at f. child_known _ (alike_itself c.lawful.ensures c.args.problem.now) c.args.parent.now _ c.parent.view_is c.args.call c.in-Some.config some.0 some.1 _ there k i parents at f;
    }

pub returns : goal.returns
returns g c =
    let some = rw c.in-Some.is at c.in_ok-config.ensures.some in
    let test = rw c.as_slice.ensures.value at c.is_among.ensures.1 in
    let path = c.in_ok-path.ensures ∙ ap (λ (x : List ℕ). x ++ c.args.call ∷ []) c.calls.ensures in
    record {
      filled = λ k i parents level at f. child_new _ (alike_itself c.lawful.ensures c.args.problem.now) c.args.parent.now _ c.parent.view_is c.args.call c.in-Some.config some.0 some.1 _ _ _ (λ h. absent_by _ (test h) c.if-is_among.false) path c.in_ok-push.ensures.items k i parents level at f;
    }
