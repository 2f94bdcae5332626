use Rattle.std.proofs.Common.{rules, length, subst, sym, refl, ◌∙◌, ap, ℕ, ◌+◌, arith}
use Rattle.lin_decide.proofs.keys.NumberLemmas.{AreApart, none_apart, still_apart, none_keyed, keyed_more, all_keyed, one_longer}
use Rattle.lin_decide.proofs.keys.key_numbers.add_numbers.Goals as goal

pub loop-c-init : goal.loop-c-init
loop-c-init c = record {
  distinct = rw c.requires.keys none_apart;
  count = rw c.requires.numbers refl;
  keyed = none_keyed c.args.problem.now _ _;
}

pub loop-c-preserved : goal.loop-c-preserved
loop-c-preserved c = record {
  distinct = subst AreApart (sym c.in_ok-number.ensures.keys) (still_apart c.loop-c.keys.keys _ c.loop-c.invariant.distinct);
  count = ap length c.in_ok-push.ensures.items ∙ one_longer c.loop-c.numbers.items _ ∙ ap (λ (n : ℕ). n + 1) c.loop-c.invariant.count;
  keyed = keyed_more c.args.problem.now c.loop-c.c c.loop-c.keys.keys _ c.loop-c.numbers.items _ c.in-Some.key _ c.in_ok-number.number c.call.result.now c.loop-c.invariant.count c.in_ok-number.ensures.keys (search rules) c.in_ok-push.ensures.items c.in_ok-number.ensures.at c.loop-c.invariant.keyed c.call.ensures (rw c.start.ensures at c.in-Some.ensures.on_key);
}

pub returns-clause-keys : goal.returns-clause-keys
returns-clause-keys c = λ yes. all_keyed c.args.problem.now c.loop-c.c c.loop-c.keys.keys c.loop-c.numbers.items c.requires.empty c.loop-c.invariant.distinct c.loop-c.invariant.count c.loop-c.invariant.keyed (let a = c.loop-c.auto.c-end in let b = c.loop-c-test.false in let d = c.len-c-end.ensures in omega (arith, a, b, d))
