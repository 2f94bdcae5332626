use Rattle.std.proofs.Common.{rules, refl}
use Rattle.lin_object.proofs.EditLemmas.{drop_remove, get_behind, inserted_again, removed_within}
use Rattle.lin_object.proofs.items.Items.take_out.Goals as goal

pub returns-clause-rest : goal.returns-clause-rest
returns-clause-rest c = let e = drop_remove c.self.inside.room c.self.inside.items.items _ c.args.place refl c.self.invariant in search rules

pub returns-clause-back : goal.returns-clause-back
returns-clause-back c =
    let e = drop_remove c.self.inside.room c.self.inside.items.items _ c.args.place refl c.self.invariant in
    let g = get_behind c.self.inside.room c.self.inside.items.items _ c.args.place c.remove.result refl in
    let r = inserted_again c.args.self.now c.args.place c.remove.result c.requires (search rules) in
    let w = removed_within c.args.self.now c.args.place c.requires in
    (search rules, search rules)
