use Rattle.std.proofs.Common.{length, IsTrue}
use Rattle.lin_text.specs.EventLines.{AreEventLines}
use Rattle.lin_text.proofs.TextLemmas.{IsMidway}
use Rattle.lin_text.proofs.text.read_lines.Given as goal

abbrev pub invariant-lines : goal.invariant-lines
invariant-lines l = record {
  midway : IsMidway l.text l.rest l.number l.format l.builder;
  lines : IsTrue l.wanted → AreEventLines l.text l.builder.events l.lines.items;
}

abbrev pub decreases-lines : goal.decreases-lines
decreases-lines l = length l.rest
