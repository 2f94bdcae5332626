use Rattle.std.proofs.Common.{rules}
use Rattle.lin_object.proofs.EditLemmas.{inserted_again, removed_within}
use Rattle.lin_object.proofs.pairs.Pairs.take_out.Goals as goal

pub returns-clause-back : goal.returns-clause-back
returns-clause-back c =
    let r = inserted_again c.args.self.now c.args.place c.remove.result (search rules) (search rules) in
    let w = removed_within c.args.self.now c.args.place (search rules) in
    (search rules, search rules)
