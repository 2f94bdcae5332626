use Rattle.std.proofs.Common.{rules, ℕ, Option, refl, sym, ◌∙◌, subst, true≢false, arith}
use Rattle.std.specs.Prelude.{IfSome, nat_eq}
use Rattle.indexmap.specs.IndexMap.{get}
use Rattle.lin_history.specs.Problems.Precedence.{Before}
use Rattle.lin_history.specs.Problems.AnyProblem.{any_problem}
use Rattle.lin_laws.proofs.TurnLemmas.{all_in_turn, turn_more, noted_more, calls_more, last_is_before}
use Rattle.lin_laws.proofs.turns.are_in_turn.Goals as goal

pub loop-call-init : goal.loop-call-init
loop-call-init c = record {
  turn = λ a b x y less low. absurd (omega (arith, low));
  noted = λ a x low. absurd (omega (arith, low));
  calls = λ q e h. absurd (search rules);
}

pub loop-call-preserved : goal.loop-call-preserved
loop-call-preserved c =
    let before : IfSome (get nat_eq c.loop-call.last c.call.result.now.process) (λ (e : ℕ). Before (any_problem c.args.problem.now) e c.loop-call.call) = subst (λ (o : Option ℕ). IfSome o (λ (e : ℕ). Before (any_problem c.args.problem.now) e c.loop-call.call)) c.last_of.ensures (c.comes_after.ensures.0 c.if-not-comes_after.false) in
    record {
      turn = turn_more c.args.problem.now c.calls-timed.ensures.timed c.loop-call.call c.call.result.now (get nat_eq c.loop-call.last) c.call.ensures c.loop-call.invariant.noted before c.loop-call.invariant.turn;
      noted = noted_more c.args.problem.now c.calls-timed.ensures.timed c.loop-call.call c.call.result.now (get nat_eq c.loop-call.last) c.call.ensures c.loop-call.invariant.noted before (get nat_eq c.note.new.last) c.in_ok-note.ensures.own c.in_ok-note.ensures.others;
      calls = calls_more c.args.problem.now c.loop-call.call c.call.result.now (get nat_eq c.loop-call.last) c.call.ensures c.loop-call.invariant.calls (get nat_eq c.note.new.last) c.in_ok-note.ensures.own c.in_ok-note.ensures.others;
    }

pub returns-then-not-comes_after : goal.returns-then-not-comes_after
returns-then-not-comes_after c = (
  (λ e. absurd (true≢false (sym e))),
  (λ turn. absurd (true≢false (sym (c.comes_after.ensures.1
      (subst (λ (o : Option ℕ). IfSome o (λ (e : ℕ). Before (any_problem c.args.problem.now) e c.loop-call.call)) (sym c.last_of.ensures)
      (last_is_before c.args.problem.now turn c.loop-call.call c.call.result.now (get nat_eq c.loop-call.last) c.call.ensures c.loop-call.invariant.calls (get nat_eq c.loop-call.last c.call.result.now.process) refl))) ∙ c.if-not-comes_after.true))),
)

pub returns : goal.returns
returns c = ((λ yes. all_in_turn c.args.problem.now c.loop-call.call (let a = c.loop-call-test.false in let b = c.len-call-end.ensures in omega (arith, a, b)) c.loop-call.invariant.turn), (λ turn. refl))
