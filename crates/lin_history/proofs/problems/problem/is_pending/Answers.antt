use Rattle.std.proofs.Common.{◌≡◌, ◌<◌, Bool, true, false, not, Option, Some, None, is_some, is_none, length, refl, rules}
use Rattle.std.proofs.lemmas.Option.{slice_get_read}
use Rattle.lin_history.proofs.problems.problem.is_pending.Goals as goal

none_from_some : {A : Type 0} (o : Option A) (b : Bool) → is_some o ≡ not b → b ≡ is_none o
none_from_some None true e = refl
none_from_some None false e = absurd (cc)
none_from_some (Some x) true e = absurd (cc)
none_from_some (Some x) false e = refl

pub returns-in-Some-clause-pending : goal.returns-in-Some-clause-pending
returns-in-Some-clause-pending g c =
    let within : c.args.call < length c.args.calls.now = search rules in
    rw (slice_get_read _ _ _ _ refl within c.in-Some.ensures.lookup.1) (none_from_some _ _ c.is_none.ensures)
