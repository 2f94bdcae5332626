use Rattle.std.proofs.Common.{string_bytes}
use Rattle.std.specs.Prelude.{not}
use Rattle.std.proofs.lemmas.Result.{on_ok_weaker}
use Rattle.lin_explain.specs.SumsText.{base_line, adds_text, must_when, may_when, bound_line}
use Rattle.lin_explain.proofs.TextLemmas.{six_behind}
use Rattle.lin_explain.proofs.sums_text.write_count.Goals as goal

pub returns : goal.returns
returns c =
    let shown = c.args.shown.now in
    on_ok_weaker c.write_bound.result (λ written. six_behind (string_bytes c.args.out.now)
    (base_line shown.from shown.base) (adds_text shown.up shown.must) (must_when c.args.calls.now c.args.lines.now shown.from shown.get)
    (adds_text (not shown.up) shown.may) (may_when c.args.calls.now c.args.lines.now shown.from shown.get) (bound_line shown.up shown.bound)
    _ _ _ _ _ _ c.in_ok-write_base.ensures c.in_ok-write_adds.ensures c.in_ok-write_must.ensures c.in_ok-write_adds-2.ensures c.in_ok-write_may.ensures written)
    c.write_bound.ensures
