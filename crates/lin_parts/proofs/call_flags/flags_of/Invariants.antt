use Rattle.std.proofs.Common.{◌≡◌, ◌<◌, ℕ, true, false, length, take}
use Rattle.std.specs.Prelude.{slice_index_or}
use Rattle.lin_history.specs.Problems.Lists.{In}
use Rattle.lin_parts.proofs.call_flags.flags_of.Given as goal

abbrev pub invariant-loop-c : goal.invariant-loop-c
invariant-loop-c l = record {
  count : length l.flags.items ≡ l.n;
  set : (k : ℕ) → slice_index_or l.flags.items k false ≡ true → In k l.calls;
  each : (k : ℕ) → In k (take l.c-index l.calls) → k < l.n → slice_index_or l.flags.items k false ≡ true;
}
