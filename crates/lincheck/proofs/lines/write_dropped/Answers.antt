use Rattle.std.proofs.Common.{IfSome, sym, subst, ◌≡◌, ◌++◌, ◌∙◌, string_bytes}
use Rattle.std.specs.Fmt.{decimal}
use Rattle.std.proofs.lemmas.Result.{on_ok_weaker}
use Rattle.lin_object.specs.PrintedForms.{op_text}
use Rattle.lincheck.specs.Report.{dropped_line}
use Rattle.lincheck.proofs.LineLemmas.{dropped_of_parts}
use Rattle.lincheck.proofs.lines.write_dropped.Goals as goal

pub returns : goal.returns
returns c =
    let call = c.call-call.result.now in
    on_ok_weaker c.write_text-2.result
    (λ e other is.
    subst (λ o. IfSome o (λ found. string_bytes c.write_text-2.new.out ≡ string_bytes c.args.out.now ++ dropped_line c.args.history.now found)) (sym c.call-call.ensures.call ∙ is)
    (rw (c.object-object.ensures)
    (dropped_of_parts (decimal call.process) c.object-object.result.name.now (op_text call.op) _ _ _ _ c.in_ok-write_text.ensures c.in_ok-push_call.ensures e)))
    c.write_text-2.ensures
