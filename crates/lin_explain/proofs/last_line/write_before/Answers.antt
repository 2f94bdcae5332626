use Rattle.std.proofs.Common.{◌++◌, ℕ, List, string_bytes, sym, ◌∙◌, ap}
use Rattle.std.proofs.lemmas.Result.{on_ok_weaker}
use Rattle.lin_explain.specs.LastLine.{call_at, were_in_and_out}
use Rattle.lin_explain.proofs.LateLemmas.{before_shown}
use Rattle.lin_explain.proofs.last_line.write_before.Goals as goal

pub returns-in-Some : goal.returns-in-Some
returns-in-Some c = on_ok_weaker c.write.result
    (λ e. e ∙ ap (λ (l : List ℕ). string_bytes c.args.out.now ++ l) (before_shown c.args.lines.now (were_in_and_out c.args.calls.now c.args.core.now (call_at c.args.calls.now c.args.core.now 0)) (call_at c.args.calls.now c.args.core.now 0) c.in-Some.first.now c.line_of-line.result (sym c.were_in_and_out.ensures ∙ c.if-were_in_and_out.true) c.in-Some.ensures.some c.line_of-line.ensures))
    c.write.ensures.bytes
