use Rattle.std.proofs.Common.{rules, refl}
use Rattle.lin_object.proofs.EditLemmas.{drop_insert, removed_again, inserted_within}
use Rattle.lin_object.proofs.items.Items.put_in_order.Goals as goal

pub returns-clause-done : goal.returns-clause-done
returns-clause-done c = let e = drop_insert c.self.inside.room c.self.inside.items.items _ c.place_of-place.result c.args.item refl c.self.invariant in search rules

pub returns-clause-back : goal.returns-clause-back
returns-clause-back c =
    let e = drop_insert c.self.inside.room c.self.inside.items.items _ c.place_of-place.result c.args.item refl c.self.invariant in
    let r = removed_again c.args.self.now c.place_of-place.result c.args.item (search rules) in
    let w = inserted_within c.args.self.now c.place_of-place.result c.args.item (search rules) in
    (search rules, search rules)
