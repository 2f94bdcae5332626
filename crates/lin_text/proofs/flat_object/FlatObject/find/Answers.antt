use Rattle.std.proofs.Common.{sym, ◌∙◌, arith}
use Rattle.lin_text.proofs.FlatLemmas.{key_here, key_before}
use Rattle.lin_text.proofs.flat_object.FlatObject.find.Goals as goal

pub returns-then-has_key : goal.returns-then-has_key
returns-then-has_key c =
    let l = c.loop-left in
    let m = c.index-members-left.result in
    sym (l.invariant.1 ∙ key_here c.args.key.now c.as_slice-members.result.now l.left m (omega arith) l.invariant.0 c.index-members-left.is (sym c.if-has_key.ensures))

pub loop-left-preserved : goal.loop-left-preserved
loop-left-preserved c =
    let l = c.loop-left in
    let m = c.index-members-left.result in
    (omega arith, l.invariant.1 ∙ key_before c.args.key.now c.as_slice-members.result.now l.left m (omega arith) l.invariant.0 c.index-members-left.is (sym c.if-has_key.ensures))
