use Rattle.std.proofs.Common.{◌≡◌, ℕ, ◌+◌, ◌-◌, ◌<◌, length, nat_eq, sym, ◌∙◌, ap, subst, arith}
use Rattle.std.proofs.Math.ListN.{length-set}
use Rattle.std.specs.Prelude.{unwrap_or}
use Rattle.indexmap.specs.IndexMap.{get}
use Rattle.lin_history.specs.Problems.AnyProblem.{any_problem}
use Rattle.lin_ahead.specs.Mutexes.HeldUntil.{IsHeldUntil, number_if, took}
use Rattle.lin_ahead.proofs.mutexes.HolderLemmas.{AreFirstFrom, AreHeldFrom, first_more, held_here, held_more, held_all}
use Rattle.lin_ahead.proofs.mutexes.holders.until_each.Goals as goal

pub loop-left-preserved : goal.loop-left-preserved
loop-left-preserved c =
    let p = any_problem c.args.problem.now in
    let n = c.loop-left.left - 1 in
    let y = c.call-one.result.now in
    let next : n + 1 ≡ c.loop-left.left = (let t = c.loop-left-test.true in omega (arith, t)) in
    let first : AreFirstFrom p (n + 1) (get nat_eq c.loop-left.next) = subst (λ (i : ℕ). AreFirstFrom p i (get nat_eq c.loop-left.next)) (sym next) c.loop-left.invariant.first in
    let held : AreHeldFrom p (n + 1) c.loop-left.row.items = subst (λ (i : ℕ). AreHeldFrom p i c.loop-left.row.items) (sym next) c.loop-left.invariant.held in
    let below : n < length c.loop-left.row.items = (let t = c.loop-left-test.true in let w = c.loop-left.invariant.within in let e = c.loop-left.invariant.count in omega (arith, t, w, e)) in
    let is : c.number_if.result ≡ number_if (took y.op y.returned) (unwrap_or (get nat_eq c.loop-left.next y.process) (length c.args.problem.now.calls)) = c.number_if.ensures ∙ ap (λ b. number_if b c.next_of.result) c.took.ensures ∙ ap (number_if (took y.op y.returned)) (c.next_of.ensures ∙ ap (unwrap_or (get nat_eq c.loop-left.next y.process)) c.len-end.ensures) in
    record {
      within = (let w = c.loop-left.invariant.within in omega (arith, w));
      count = length-set c.loop-left.row.items n c.number_if.result ∙ c.loop-left.invariant.count;
      first = first_more p n y c.call-one.ensures (get nat_eq c.loop-left.next) (get nat_eq c.note_unlock.new.next) first c.in_ok-note_unlock.ensures.own c.in_ok-note_unlock.ensures.others;
      held = held_more p n c.number_if.result c.loop-left.row.items below (subst (IsHeldUntil p n) (sym is) (held_here p n y c.call-one.ensures (get nat_eq c.loop-left.next) (get nat_eq c.loop-left.next) first)) held;
    }

pub returns : goal.returns
returns c = held_all (any_problem c.args.problem.now) c.loop-left.row.items c.loop-left.invariant.count (subst (λ (i : ℕ). AreHeldFrom (any_problem c.args.problem.now) i c.loop-left.row.items) (let t = c.loop-left-test.false in omega (arith, t)) c.loop-left.invariant.held)
