use Rattle.std.proofs.Common.{◌≡◌, ℕ, ◌-◌, ◌<◌, false, get_or}
use mathlib.Core.Option.{some}
use lib.ListN.{get_elem?}
use Rattle.std.specs.Mem.Slots.{slots_filled, slots_items, slots_len}
use Rattle.std.specs.Mem.Slots.Ownership.{Filled}
use Rattle.lin_history.specs.Problems.Problem.{problem_of}
use Rattle.lin_search.specs.Store.{IsStore}
use Rattle.lin_table.proofs.end.free_shards.Given as goal

abbrev pub invariant-loop-at : goal.invariant-loop-at
invariant-loop-at g l = record {
  same : slots_items l.closed.slots ≡ slots_items l.initial.closed.slots;
  full : Filled (slots_filled l.closed.slots) l.at (slots_len l.closed.slots);
  empty : (k : ℕ) → k < l.at → get_or (slots_filled l.closed.slots) k false ≡ false;
  lawful : (k : ℕ) (shard : _) → k < l.at → get_elem? (slots_items l.initial.closed.slots) k ≡ some shard → IsStore (problem_of g.O.SeqObject.after g.O.State.PartialEq.eq g.O.Reply.PartialEq.eq shard.problem) shard.pairs;
}

abbrev pub decreases-loop-at : goal.decreases-loop-at
decreases-loop-at g l = slots_len l.closed.slots - l.at
