use Rattle.std.proofs.Common.{Some, sym, ◌∙◌, ap, true≢false, arith}
use Rattle.std.specs.Prelude.{nat_eq}
use Rattle.indexmap.specs.IndexMap.{get}
use Rattle.lin_history.specs.Problems.AnyProblem.{any_problem}
use Rattle.lin_ahead.specs.Mutexes.Strays.{holds_then}
use Rattle.lin_ahead.proofs.mutexes.HeldLemmas.{held_more, not_stray, no_stray_more, no_stray_at_all}
use Rattle.lin_ahead.proofs.mutexes.strays.some_is_stray.Goals as goal

pub loop-call-preserved : goal.loop-call-preserved
loop-call-preserved c =
    let p = any_problem c.args.problem.now in
    let y = c.call-one.result.now in
    let own = c.in_ok-note.ensures.own ∙ ap Some (c.holds_then.ensures ∙ ap (holds_then y.op y.returned) c.holds-before.ensures) in
    record {
      held = held_more p c.loop-call.call y (get nat_eq c.loop-call.held) (get nat_eq c.note.new.held) c.call-one.ensures c.loop-call.invariant.held own c.in_ok-note.ensures.others;
      none = no_stray_more p c.loop-call.call
          (not_stray p c.loop-call.call y (get nat_eq c.loop-call.held) (get nat_eq c.note.new.held) c.call-one.ensures c.loop-call.invariant.held own c.in_ok-note.ensures.others
          (λ k. true≢false (sym (c.is_stray.ensures.1 (k.0, k.1, c.holds-before.ensures ∙ k.2)) ∙ c.if-is_stray.false)))
          c.loop-call.invariant.none;
    }

pub returns : goal.returns
returns c = (
  (λ e. absurd (true≢false (sym e))),
  (λ s. absurd (no_stray_at_all (any_problem c.args.problem.now) c.loop-call.call (let a = c.loop-call-test.false in let b = c.len-call-end.ensures in omega (arith, a, b)) c.loop-call.invariant.none s)),
)
