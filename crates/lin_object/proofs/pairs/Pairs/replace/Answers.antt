use Rattle.std.proofs.Common.{rules}
use Rattle.lin_object.proofs.EditLemmas.{set_again}
use Rattle.lin_object.proofs.pairs.Pairs.replace.Goals as goal

pub returns-clause-back : goal.returns-clause-back
returns-clause-back c =
    let r = set_again c.args.self.now c.args.place c.args.pair c.index-before.result.now c.requires (search rules) in
    (search rules, search rules)
