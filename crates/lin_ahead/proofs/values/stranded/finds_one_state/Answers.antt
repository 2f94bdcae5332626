use Rattle.std.proofs.Common.{length, refl}
use Rattle.std.proofs.lemmas.Option.{slice_get_read}
use Rattle.lin_ahead.proofs.values.stranded.finds_one_state.Goals as goal

pub returns-in-Some : goal.returns-in-Some
returns-in-Some c = λ told. c.requires c.args.call c.in-Some.row.now (slice_get_read c.args.owners.now (length c.args.owners.now) c.args.call c.in-Some.row.now refl c.in-Some.ensures.lookup.3.0 c.in-Some.ensures.lookup.1) told
