use Rattle.std.proofs.Common.{rules, ℕ, Vec, Global, ◌≡◌, []}
use Rattle.lin_history.proofs.RecorderLemmas.IndexLemmas.{each_pushed}
use Rattle.lin_history.proofs.recorder.indices.empty_lists.Goals as goal

pub loop-preserved : goal.loop-preserved
loop-preserved c = (search rules, each_pushed (λ (v : Vec ℕ Global). v.items ≡ []) c.loop.lists.items c.push.new.self.items c.new.result c.loop.invariant.1 c.new.ensures.items c.in_ok-push.ensures.items)
