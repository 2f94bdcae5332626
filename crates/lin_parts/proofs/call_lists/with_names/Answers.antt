use Rattle.std.proofs.Common.{ℕ, List, ◌∷◌, ◌++◌, [], ap, ◌∙◌}
use Rattle.lin_parts.specs.ListLemmas.{named_one}
use Rattle.lin_parts.proofs.call_lists.with_names.Goals as goal

pub loop-c-preserved : goal.loop-c-preserved
loop-c-preserved c =
    c.in_ok-push.ensures.items ∙ ap (λ (x : List ℕ). x ++ c.in-Some.name.now ∷ []) c.loop-c.invariant ∙ named_one c.args.kept.now c.args.calls.now c.loop-c.c-index c.in-Some.name.now c.loop-c-test.true (c.in-Some.ensures.lookup.3.1 0)
