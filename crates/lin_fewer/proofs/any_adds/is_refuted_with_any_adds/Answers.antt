use Rattle.std.proofs.Common.{◌≡◌, List, sym, ◌∙◌, subst, rules, w64, to_z, of_z}
use Rattle.std.specs.Prelude.{ℤ}
use Rattle.lin_fewer.specs.declared.any_adds.Beginning.{Beginning}
use Rattle.lin_fewer.proofs.AnyAddsLemmas.{Covers, covers_root, root_beginnings, covers_none, covers_more}
use Rattle.lin_fewer.proofs.any_adds.is_refuted_with_any_adds.Goals as goal

pub loop-init : goal.loop-init
loop-init g c =
    let root = rw c.len.ensures at c.in_ok-layer.ensures in
    let same : to_z w64 (of_z w64 c.in-Some.start) ≡ c.in-Some.start = search rules in
    (subst (λ (n : ℤ). Covers c.args.problem.now n c.in_ok-layer.layer.items) (sym same) (covers_root c.args.problem.now c.in-Some.start c.in_ok-layer.layer.items (sym c.start.ensures ∙ c.in-Some.ensures.is) root), root_beginnings c.args.problem.now c.in_ok-layer.layer.items root)

pub returns-then-is_empty : goal.returns-then-is_empty
returns-then-is_empty g c = λ yes. covers_none c.args.problem.now (to_z w64 (of_z w64 c.in-Some.start)) (subst (λ (layer : List Beginning). Covers c.args.problem.now (to_z w64 (of_z w64 c.in-Some.start)) layer) (rw c.as_slice.ensures.value at (c.is_empty.ensures c.if-is_empty.true)) c.loop.invariant.0)

pub loop-preserved : goal.loop-preserved
loop-preserved g c =
    let leads = rw (c.in-Some-2.is, c.as_slice-in-loop.ensures.value) at c.in_ok-later.ensures.leads in
    (covers_more c.args.problem.now _ c.loop.layer.items c.in-Some-2.later.items (c.none_takes_off.ensures c.if-not-none_takes_off.false) c.loop.invariant.1 leads c.loop.invariant.0, rw c.in-Some-2.is at c.in_ok-later.ensures.layer)
