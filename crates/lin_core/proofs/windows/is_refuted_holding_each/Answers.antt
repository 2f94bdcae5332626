use Rattle.std.proofs.Common.{rules, ◌≡◌, ◌<◌, ℕ, Some, length, arith}
use Rattle.std.specs.Prelude.{ℤ, slice_get}
use Rattle.std.proofs.lemmas.Option.{slice_get_read}
use Rattle.lin_history.specs.Problems.AnyProblem.{any_problem}
use Rattle.lin_core.specs.SuffixCores.{holding, IsRefutedFrom}
use Rattle.lin_core.proofs.CheckLemmas.{below, each_more}
use Rattle.lin_core.proofs.windows.is_refuted_holding_each.Goals as goal

pub loop-i-preserved : goal.loop-i-preserved
loop-i-preserved g c =
    let p = any_problem c.args.problem.now in
    let w = c.args.window.now in
    each_more w.values.items (λ (k : ℕ) (v : ℤ). IsRefutedFrom p w.from w.event w.key w.values.items w.calls.items (holding w.key p.start v)) c.loop-i.i _ (search (rules, slice_get_read)) (c.in_ok-is_refuted_holding.ensures c.if-not-branch.false) c.loop-i.invariant

pub returns : goal.returns
returns g c = λ yes i v at.
    let within : i < length c.args.window.now.values.items = below c.args.window.now.values.items i v at in
    let a = c.loop-i-test.false in
    let n = c.len-i-end.ensures in
    c.loop-i.invariant i v (omega (arith, within, a, n)) at
