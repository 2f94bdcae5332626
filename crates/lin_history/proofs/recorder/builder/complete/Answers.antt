use Rattle.std.proofs.Common.{refl}
use Rattle.std.proofs.lemmas.Option.{slice_get_read}
use Rattle.lin_history.proofs.recorder.builder.complete.Goals as goal

pub returns-clause-calls : goal.returns-clause-calls
returns-clause-calls c = rw (slice_get_read _ _ _ _ refl c.requires.within c.index_mut.ensures.value) refl
