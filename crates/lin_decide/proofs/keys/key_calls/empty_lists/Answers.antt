use Rattle.std.proofs.Common.{length, ◌∙◌, ap, ℕ, ◌+◌, refl}
use Rattle.lin_decide.proofs.keys.GroupLemmas.{empty_more, one_longer}
use Rattle.lin_decide.proofs.keys.key_calls.empty_lists.Goals as goal

pub loop-init : goal.loop-init
loop-init c = rw c.in_ok-lists.ensures.items (record { count = refl; empty = λ k. refl })

pub loop-preserved : goal.loop-preserved
loop-preserved c = record {
  count = ap length c.in_ok-push.ensures.items ∙ one_longer _ _ ∙ ap (λ (n : ℕ). n + 1) c.loop.invariant.count;
  empty = empty_more _ _ _ c.new.ensures c.in_ok-push.ensures.items c.loop.invariant.empty;
}
