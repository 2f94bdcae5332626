use Rattle.std.proofs.Common.{ℕ, List, subst, sym, ◌∙◌, ap, length, arith}
use Rattle.std.specs.Prelude.{slice_index}
use Rattle.std.proofs.Math.ListN.{length-set}
use Rattle.lin_decide.specs.Keys.Products.{AreCallsOf}
use Rattle.lin_decide.specs.Keys.Merging.{order_at}
use Rattle.lin_decide.proofs.keys.GroupLemmas.{no_calls_of, lists_more}
use Rattle.lin_decide.proofs.keys.key_calls.calls_of_keys.Goals as goal

pub loop-call-init : goal.loop-call-init
loop-call-init c = record {
  count = c.in_ok-lists.ensures.length;
  calls = λ k h. subst (λ (x : List ℕ). AreCallsOf (slice_index c.args.numbers.now) 0 k x) (sym (c.in_ok-lists.ensures.empty k)) (no_calls_of (slice_index c.args.numbers.now) k);
}

pub loop-call-preserved : goal.loop-call-preserved
loop-call-preserved c = record {
  count = ap length c.in_ok-add_call.ensures ∙ length-set _ _ _ ∙ c.loop-call.invariant.count;
  calls = lists_more (slice_index c.args.numbers.now) c.loop-call.call c.args.count _ _ c.loop-call.invariant.count (c.requires.within c.loop-call.call c.loop-call-test.true) c.in_ok-add_call.ensures c.loop-call.invariant.calls;
}

pub returns-clause-calls : goal.returns-clause-calls
returns-clause-calls c = λ k h. subst (λ (n : ℕ). AreCallsOf (slice_index c.args.numbers.now) n k (order_at c.loop-call.lists.items k)) (let a = c.loop-call-test.false in let b = c.loop-call.auto.call-end in omega (arith, a, b)) (c.loop-call.invariant.calls k h)
