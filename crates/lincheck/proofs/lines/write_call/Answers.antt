use Rattle.std.proofs.Common.{sym}
use Rattle.std.specs.Fmt.{decimal}
use Rattle.std.proofs.lemmas.Result.{on_ok_weaker}
use Rattle.lin_object.specs.PrintedForms.{op_text, reply_text}
use Rattle.lincheck.specs.Report.{mark_of}
use Rattle.lincheck.proofs.LineLemmas.{line_of_parts}
use Rattle.lincheck.proofs.lines.write_call.Goals as goal

pub returns : goal.returns
returns c =
    let call = c.call-call.result.now in
    on_ok_weaker c.write_text-2.result
    (λ e. rw (c.call-call.ensures.call, c.object-object.ensures) (
    line_of_parts (decimal c.args.place) (decimal call.process) c.object-object.result.name.now (op_text call.op) (reply_text c.args.placed.now.reply) (mark_of call.returned)
    _ _ _ _ _ _ _
    c.in_ok-push_number.ensures c.in_ok-write_space.ensures c.in_ok-push_call.ensures c.in_ok-write_text.ensures c.in_ok-push_reply.ensures (rw c.end_of.ensures at e)))
    c.write_text-2.ensures
