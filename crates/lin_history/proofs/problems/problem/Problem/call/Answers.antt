use Rattle.std.proofs.Common.{◌<◌, length, refl}
use Rattle.std.proofs.lemmas.Option.{slice_get_read}
use Rattle.lin_history.proofs.problems.problem.Problem.call.Goals as goal

pub returns : goal.returns
returns g c =
    let within : c.args.call < length c.self.inside.calls.items = rw (← c.self.view_is) at c.requires in
    rw (← c.self.view_is) (slice_get_read _ _ _ _ refl within c.index.ensures)
