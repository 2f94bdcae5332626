use Rattle.std.proofs.Common.{None, codes, string_bytes, sym, ◌∙◌}
use Rattle.std.proofs.lemmas.Result.{on_ok_weaker}
use Rattle.lin_explain.specs.LastLine.{from_text_of, until_text, before_text_of}
use Rattle.lin_explain.proofs.TextLemmas.{four_behind}
use Rattle.lin_explain.proofs.last_line.write_others.Goals as goal

pub returns : goal.returns
returns c = rw (sym c.has_odd_reply.ensures ∙ c.if-has_odd_reply.false) (on_ok_weaker c.write_before.result
    (λ fourth. four_behind (string_bytes c.args.out.now) (codes "no other call ") (from_text_of c.args.calls.now c.args.lines.now c.args.core.now) (until_text c.args.calls.now c.args.lines.now None c.args.core.now) (before_text_of c.args.calls.now c.args.lines.now c.args.core.now) _ _ _ _ c.in_ok-push_str.ensures.bytes c.in_ok-write_from.ensures c.in_ok-write_until.ensures fourth)
    c.write_before.ensures)

pub returns-then-has_odd_reply : goal.returns-then-has_odd_reply
returns-then-has_odd_reply c = rw (sym c.has_odd_reply.ensures ∙ c.if-has_odd_reply.true) c.write_no_other.ensures
