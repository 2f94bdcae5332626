use Rattle.std.proofs.Common.{◌≡◌, drop}
use Rattle.std.specs.Prelude.{ℤ}
use Rattle.std.specs.Ordering.{int_eq}
use Rattle.indexmap.specs.IndexMap.{get}
use Rattle.lin_ahead.specs.Items.Impossible.{takers_of, callers_from, callers_in, item_out}
use Rattle.lin_ahead.proofs.items.taken_twice.takers_of.Given as goal

-- how many so far, with the calls that are left
abbrev pub invariant-loop-made : goal.invariant-loop-made
invariant-loop-made l = (v : ℤ) → callers_from (λ c. item_out l.start c.op c.returned) (callers_in (get int_eq l.takers) v) (drop l.made-index l.calls) v ≡ takers_of l.start l.calls v
