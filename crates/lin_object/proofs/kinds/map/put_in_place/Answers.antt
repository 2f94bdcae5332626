use Rattle.std.proofs.Common.{rules}
use Rattle.lin_object.proofs.EditLemmas.{set_there}
use Rattle.lin_object.proofs.kinds.map.put_in_place.Goals as goal

pub returns-in_default-Some-clause-step : goal.returns-in_default-Some-clause-step
returns-in_default-Some-clause-step c =
    let e = set_there c.args.pairs.now c.find.result.0 (record { key = c.args.key; value = c.args.value }) (search rules) in
    search rules
