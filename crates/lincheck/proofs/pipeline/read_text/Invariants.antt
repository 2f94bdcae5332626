use Rattle.std.proofs.Common.{◌≡◌, false, ◌≤◌, ◌+◌, ◌-◌, vec_len}
use Rattle.std.specs.Io.KnownBytes.{Consumes}
use Rattle.lin_text.specs.declared.text.TheConstants.{MAX_INPUT_BYTES}
use Rattle.lincheck.proofs.pipeline.read_text.Given as goal

abbrev pub invariant-pieces : goal.invariant-pieces
invariant-pieces g l = record {
  consumed : Consumes (g.S.Source.remaining l.fn.source) (g.S.Source.remaining l.source) l.text.items;
  sound : g.S.Source.failed l.source ≡ false;
  bound : vec_len l.text ≤ (MAX_INPUT_BYTES + 1);
}

abbrev pub decreases-pieces : goal.decreases-pieces
decreases-pieces g l = (MAX_INPUT_BYTES + 1) - vec_len l.text
