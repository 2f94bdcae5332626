use Rattle.std.proofs.Common.{sym, ◌∙◌}
use Rattle.lin_object.proofs.StepTableLemmas.{keeps_state}
use Rattle.lin_object.proofs.any.AnyObjectSeqObject.changes_nothing.Goals as goal

pub returns-clause-law : goal.returns-clause-law
returns-clause-law c told = keeps_state c.args.op.now c.args.returned.now (sym c.changes_nothing.ensures ∙ told)
