use Rattle.std.proofs.Common.{◌∙◌, arith}
use Rattle.lin_search.proofs.WindowLemmas.{opened_one}
use Rattle.lin_search.proofs.call_set.open_full.Goals as goal

pub loop-full-preserved : goal.loop-full-preserved
loop-full-preserved c = record {
  same = λ i. rw c.in_ok-insert.ensures.ok (opened_one c.loop-full.full c.loop-full.words.items (omega (arith, c.loop-full-test.true)) i ∙ c.loop-full.invariant.same i);
  bound = let k = c.loop-full.invariant.bound in omega (arith, k);
  room = let k = c.loop-full.invariant.room in let n = c.in_ok-insert.ensures.len in let m = c.insert.ensures.capacity in let h = c.loop-full-test.true in omega (arith, k, n, m, h);
  opened = λ h. let k = c.loop-full-test.true in omega (arith, k);
  kept = λ h. let k = c.loop-full-test.true in let b = c.loop-full.invariant.bound in absurd (omega (arith, k, b, h));
}
