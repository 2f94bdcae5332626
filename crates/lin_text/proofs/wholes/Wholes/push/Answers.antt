use Rattle.std.proofs.Common.{◌≡◌, ◌++◌, ◌∷◌, [], Some, rules}
use Rattle.serde_json.specs.Data.{number}
use Rattle.serde_json.specs.Find.{of_integer}
use Rattle.lin_text.specs.Fields.{whole}
use Rattle.lin_text.proofs.WholeNumberLemmas.{one_more_read}
use Rattle.lin_text.proofs.wholes.Wholes.push.Goals as goal

pub invariant_of-self-2 : goal.invariant_of-self-2
invariant_of-self-2 c =
    let back : whole (number (of_integer c.args.number)) ≡ Some c.args.number = search rules in
    let pushed : c.push.new.self.items ≡ c.self.inside.numbers.items ++ c.args.number ∷ [] = search rules in
    rw pushed (one_more_read c.self.inside.numbers.items c.args.number c.self.invariant back)
