use Rattle.std.proofs.Common.{◌≡◌, drop}
use Rattle.std.specs.Prelude.{ℤ}
use Rattle.std.specs.Ordering.{int_eq}
use Rattle.indexmap.specs.IndexMap.{get}
use Rattle.lin_ahead.specs.Items.Impossible.{adders_of, callers_from, callers_in, item_added}
use Rattle.lin_ahead.proofs.items.taken_twice.adders_of.Given as goal

-- how many so far, with the calls that are left
abbrev pub invariant-loop-made : goal.invariant-loop-made
invariant-loop-made l = (v : ℤ) → callers_from (λ c. item_added c.op) (callers_in (get int_eq l.adders) v) (drop l.made-index l.calls) v ≡ adders_of l.calls v
