use Rattle.std.proofs.Common.{◌≡◌, length, arith}
use Rattle.std.proofs.lemmas.Bool.Decides.{nat_tests}
use Rattle.lin_text.proofs.EventLineLemmas.{line_noted_if}
use Rattle.lin_text.proofs.TextLemmas.{goes_on, ends}
use Rattle.lin_text.proofs.text.read_lines.Goals as goal

pub lines-preserved : goal.lines-preserved
lines-preserved c = record {
  midway = goes_on _ _ _ _ _ _ _ _ _ c.lines.invariant.midway c.first_line.ensures.lines c.first_line.ensures.shorter c.in-Ok.ensures.ok;
  lines =
      line_noted_if _ _ _ _ _ _ _ _ _ _ _ c.args.wanted c.in-Ok.taken.is_numbered c.lines.invariant.midway c.first_line.ensures.lines c.in-Ok.ensures.ok c.in-Ok.ensures.count c.lines.invariant.lines c.in-Ok-note_line.ensures;
}

pub returns-clause-history : goal.returns-clause-history
returns-clause-history c =
    let empty : length c.lines.rest.now ≡ 0 = grind (arith, nat_tests) in
    ends _ _ _ _ _ c.lines.invariant.midway empty
