use Rattle.std.proofs.lemmas.Result.{IfOk-weaker}
use Rattle.lincheck.proofs.CommandLineLemmas.{line_of}
use Rattle.lincheck.proofs.request.command_line.Goals as goal

pub returns : goal.returns
returns c = IfOk-weaker c.line_with.result _ _ line_of c.line_with.ensures
