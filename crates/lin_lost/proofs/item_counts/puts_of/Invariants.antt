use Rattle.std.proofs.Common.{◌≡◌, ◌+◌, drop}
use Rattle.std.specs.Prelude.{ℤ}
use Rattle.std.specs.Ordering.{int_eq}
use Rattle.indexmap.specs.IndexMap.{get}
use Rattle.lin_lost.specs.Counts.{count_in, how_often, item_put, puts_of}
use Rattle.lin_lost.proofs.item_counts.puts_of.Given as goal

-- how many so far, with the calls that are left
abbrev pub invariant-loop-call : goal.invariant-loop-call
invariant-loop-call l = (v : ℤ) → count_in (get int_eq l.puts) v + how_often (λ x. item_put x.op) (drop l.call-index l.calls) v ≡ puts_of l.calls v
