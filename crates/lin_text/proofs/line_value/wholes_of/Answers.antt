use Rattle.std.proofs.Common.{◌≡◌, ◌<◌, Some, length, ◌++◌, ◌∷◌, [], sym, ◌∙◌, add-one, arith, rules}
use Rattle.serde_json.specs.View.{view}
use Rattle.lin_text.specs.Fields.{whole}
use Rattle.lin_text.proofs.WholeNumberLemmas.{goes_on}
use Rattle.lin_text.proofs.line_value.wholes_of.Goals as goal

pub loop-item-preserved : goal.loop-item-preserved
loop-item-preserved c =
    let within : c.loop-item.item-index < length c.args.list.now = omega arith in
    let e : whole (view c.item-item.result) ≡ Some c.in-Some.number = sym c.in-Some.ensures in
    let pushed : c.push.new.self.items ≡ c.loop-item.found.items ++ c.in-Some.number ∷ [] = search rules in
    rw (pushed, add-one)
    (sym (goes_on c.args.list.now c.loop-item.item-index c.item-item.result c.in-Some.number c.loop-item.found.items within (rw (← c.item-item.is) e)) ∙ c.loop-item.invariant)
