use Rattle.std.proofs.Common.{◌≡◌, ◌<◌, subst, sym, rules, arith, length}
use Rattle.std.proofs.Common.{w64}
use Rattle.std.proofs.lemmas.Int.{to_z-of_z}
use Rattle.std.specs.Prelude.{ℤ}
use Rattle.lin_history.specs.Problems.AnyProblem.{any_problem}
use Rattle.lin_ahead.proofs.counters.SumRowLemmas.{limits_all, limits_more, read_at, LimitsSoFar}
use Rattle.lin_ahead.proofs.counters.rows.limits.Goals as goal

pub loop-call-preserved : goal.loop-call-preserved
loop-call-preserved c =
    let inside : c.loop-call.call < length c.args.problem.now.calls = search rules in
    let before_each = c.in_ok-before.ensures.each in
    let through_each = c.in_ok-through.ensures.each in
    let before = read_at c.in_ok-before.before.items c.loop-call.call _ _ (omega (arith, inside, before_each)) (sym c.index.ensures) in
    let through = read_at c.in_ok-through.through.items c.loop-call.call _ _ (omega (arith, inside, through_each)) (sym c.index-in-loop-call.ensures) in
    rw c.in_ok-push.ensures.items (limits_more (any_problem c.args.problem.now) c.args.events.now c.requires _ c.args.up c.in_ok-before.before.items c.in_ok-through.through.items c.in_ok-before.ensures c.in_ok-through.ensures c.loop-call.call _ _ _ _ c.limit_of.result c.loop-call.invariant c.call.ensures before through c.limit_of.ensures.some c.limit_of.ensures.none)

pub returns : goal.returns
returns c = limits_all (any_problem c.args.problem.now) c.args.start c.args.up c.loop-call.row.items (let e : c.loop-call.call ≡ length c.args.problem.now.calls = search rules in subst (λ (z : ℤ). LimitsSoFar (any_problem c.args.problem.now) z c.args.up (length c.args.problem.now.calls) c.loop-call.row.items) (to_z-of_z w64 c.args.start c.ranges.start) (rw e at c.loop-call.invariant))
