use Rattle.std.proofs.Common.{string_bytes}
use Rattle.std.proofs.lemmas.Result.{on_ok_weaker}
use Rattle.lin_explain.proofs.TextLemmas.{three_behind}
use Rattle.lin_explain.proofs.sums_text.write_gets.Goals as goal

pub returns : goal.returns
returns c = on_ok_weaker c.write_get.result (λ written. three_behind (string_bytes c.args.out.now) _ _ _ _ _ _ c.in_ok-write_head.ensures c.in_ok-write_first.ensures written) c.write_get.ensures
