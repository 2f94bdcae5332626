use Rattle.std.proofs.Common.{◌≡◌, Some, Ok, rules}
use Rattle.std.specs.Prelude.{codes}
use Rattle.lin_object.specs.Kinds.{op_read}
use Rattle.lin_text.specs.Fields.{text_at, arguments_in}
use Rattle.lin_text.proofs.OperationLemmas.{op_there}
use Rattle.lin_text.proofs.fields.op_of.Goals as goal

pub returns-in-Ok-read_op-clause-ok : goal.returns-in-Ok-read_op-clause-ok
returns-in-Ok-read_op-clause-ok g c =
    let value = g.V.LineValue.json c.args.value.now in
    let text : text_at (codes "op") value ≡ Some c.in-Some.word.now = search (rules) in
    let arguments : arguments_in value ≡ Some c.in-Some-arguments.arguments.items = search (rules) in
    let read : op_read c.args.kind c.in-Some.word.now c.in-Some-arguments.arguments.items ≡ Ok c.in-Ok-read_op.op = search (rules) in
    op_there c.args.kind value c.in-Some.word.now c.in-Some-arguments.arguments.items c.in-Ok-read_op.op text arguments read
