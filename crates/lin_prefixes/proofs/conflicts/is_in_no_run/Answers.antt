use Rattle.std.proofs.Common.{◌≡◌, ℕ, List, subst}
use Rattle.lin_history.specs.Problems.Lists.{In}
use Rattle.lin_prefixes.proofs.ListLemmas.{list_at}
use Rattle.lin_prefixes.proofs.conflicts.is_in_no_run.Goals as goal

pub returns-then-is_alone : goal.returns-then-is_alone
returns-then-is_alone c = λ yes. (c.loop-conflict.conflict-index, c.loop-conflict-test.true, subst (λ (l : List ℕ). (b : ℕ) → In b l → b ≡ c.args.call) (list_at c.args.conflicts.now c.loop-conflict.conflict-index _ c.loop-conflict-test.true c.conflict-item.is) (c.is_alone.ensures c.if-is_alone.true))
