use Rattle.std.proofs.Common.{rules}
use Rattle.lin_object.proofs.EditLemmas.{removed_again, inserted_within}
use Rattle.lin_object.proofs.pairs.Pairs.put_in.Goals as goal

pub returns-clause-back : goal.returns-clause-back
returns-clause-back c =
    let r = removed_again c.args.self.now c.args.place c.args.pair (search rules) in
    let w = inserted_within c.args.self.now c.args.place c.args.pair (search rules) in
    (search rules, search rules)
