use Rattle.std.proofs.Common.{ℕ, List, ◌∷◌, ◌++◌, [], ap, ◌∙◌}
use Rattle.lin_parts.specs.ListLemmas.{in_at, named_one}
use Rattle.lin_parts.proofs.call_lists.own_names.Goals as goal

pub name_of-requires : goal.name_of-requires
name_of-requires c = c.requires _ (in_at c.args.calls.now c.loop-c.c-index c.loop-c-test.true)

pub loop-c-preserved : goal.loop-c-preserved
loop-c-preserved c =
    c.in_ok-push.ensures.items ∙ ap (λ (x : List ℕ). x ++ c.name_of.result ∷ []) c.loop-c.invariant ∙ named_one c.args.kept.now c.args.calls.now c.loop-c.c-index c.name_of.result c.loop-c-test.true c.name_of.ensures
