use Rattle.std.proofs.Common.{refl}
use Rattle.std.proofs.lemmas.Option.{slice_get_read}
use Rattle.lin_history.proofs.problems.problem.complete.Goals as goal

pub returns : goal.returns
returns g c = rw (slice_get_read _ _ _ _ refl c.requires c.index_mut.ensures.value) refl
