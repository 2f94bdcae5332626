use Rattle.std.proofs.Common.{rules, ◌≡◌, ℕ, Bool, false, Some, List, subst}
use Rattle.std.specs.Prelude.{ℤ, IsTrue, slice_get}
use Rattle.lin_object.specs.Items.{is_in}
use Rattle.lin_history.specs.Problems.AnyProblem.{any_problem}
use Rattle.lin_core.specs.SuffixCores.{HasBeginningsIn, holding, IsRefutedFrom, IsSuffixCore}
use Rattle.lin_core.proofs.CheckLemmas.{ok_more}
use Rattle.lin_core.proofs.SuffixCoreLemmas.{suffix_core}
use Rattle.lin_core.proofs.windows.is_refuted_anyhow.Goals as goal

pub returns : goal.returns
returns g c =
    let p = any_problem c.args.problem.now in
    let w = c.args.window.now in
    ok_more c.is_refuted_holding_each.result
    (λ (b : Bool). IsTrue b → (i : ℕ) (v : ℤ) → slice_get w.values.items i ≡ Some v → IsRefutedFrom p w.from w.event w.key w.values.items w.calls.items (holding w.key p.start v))
    (λ (b : Bool). IsTrue b → IsSuffixCore p w.from w.event w.key w.values.items w.calls.items)
    (λ b each yes. suffix_core p w.from w.event w.key c.in-Some.other _ w.values.items w.calls.items
    (subst (λ (vs : List ℤ). is_in c.in-Some.other vs ≡ false) c.as_slice.ensures.value c.in-Some.ensures)
    (subst (HasBeginningsIn w.key w.values.items) c.start.ensures (c.has_beginnings.ensures c.if-not-has_beginnings.false))
    (c.in_ok-is_refuted_holding_none.ensures c.if-not-branch.false)
    (c.in_ok-is_refuted_holding.ensures c.if-not-branch-2.false) (search rules)
    (each yes))
    c.is_refuted_holding_each.ensures
