use Rattle.std.proofs.Common.{◌≡◌, ◌+◌, ◌-◌, length, take, drop, sym, add-one, arith}
use Rattle.std.proofs.lemmas.Grind.{common_steps}
use Rattle.lin_text.proofs.LineLemmas.{lines_at, lines_whole}
use Rattle.lin_text.proofs.text.first_line.Goals as goal

pub returns-in-Some-clause-lines : goal.returns-in-Some-clause-lines
returns-in-Some-clause-lines c =
    let whole : take (length c.args.text.now - (c.in-Some.end + 1)) (drop (c.in-Some.end + 1) c.args.text.now) ≡ drop (c.in-Some.end + 1) c.args.text.now = grind (arith, common_steps) in
    rw (whole, add-one) (lines_at c.args.text.now c.in-Some.end (sym c.in-Some.ensures.value))

pub returns-in-None-clause-lines : goal.returns-in-None-clause-lines
returns-in-None-clause-lines c = lines_whole c.args.text.now c.requires (sym c.in-None.ensures.value)
