use Rattle.std.proofs.Common.{refl}
use Rattle.std.proofs.lemmas.Option.{slice_get-get_or}
use Rattle.lin_history.proofs.recorder.builder.next_call.Goals as goal

pub returns-clause-number : goal.returns-clause-number
returns-clause-number c = slice_get-get_or c.args.counts.now c.args.object 0 c.requires.within

pub returns-clause-call : goal.returns-clause-call
returns-clause-call c = refl
