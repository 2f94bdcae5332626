use Rattle.std.proofs.Common.{Some, codes, string_bytes}
use Rattle.std.proofs.lemmas.Result.{on_ok_weaker}
use Rattle.lin_explain.specs.LastLine.{since_text, until_text}
use Rattle.lin_explain.proofs.TextLemmas.{three_behind}
use Rattle.lin_explain.proofs.last_line.write_others_from.Goals as goal

pub returns : goal.returns
returns c = on_ok_weaker c.end_line.result
    (λ third. three_behind (string_bytes c.args.out.now) (since_text c.args.lines.now c.args.from) (until_text c.args.calls.now c.args.lines.now (Some c.args.from) c.args.core.now) (codes "\n") _ _ _ c.in_ok-write_since.ensures c.in_ok-write_until.ensures third)
    c.end_line.ensures
