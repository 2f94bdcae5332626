use Rattle.std.proofs.Common.{◌≡◌, ◌<◌, ℕ, false, take, length, vec_len, get_or}
use Rattle.lincheck.specs.Report.{is_placed}
use Rattle.lincheck.proofs.lines.placed_flags.Given as goal

abbrev pub invariant-loop-placed : goal.invariant-loop-placed
invariant-loop-placed l = record {
  count : vec_len l.flags ≡ length l.history.calls;
  flags : (a : ℕ) → a < length l.history.calls → get_or l.flags.items a false ≡ is_placed (take l.placed-index l.order) a;
}
