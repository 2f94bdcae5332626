use Rattle.std.proofs.Common.{sym, ◌∙◌}
use Rattle.lin_object.proofs.StepTableLemmas.{ignores_process, was_false}
use Rattle.lin_object.proofs.any.AnyObjectSeqObject.ignores_process.Goals as goal

pub returns-clause-law : goal.returns-clause-law
returns-clause-law c told = ignores_process c.args.op.now c.args.returned.now (sym c.looks_at_process.ensures ∙ was_false c.looks_at_process.result told)
