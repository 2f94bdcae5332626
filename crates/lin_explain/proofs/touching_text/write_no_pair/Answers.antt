use Rattle.std.proofs.Common.{rules, append_assoc, ◌≡◌, to_z, of_z, w64}
use Rattle.lin_explain.proofs.touching_text.write_no_pair.Goals as goal

pub returns : goal.returns
returns c =
    let key : to_z w64 (of_z w64 c.args.key) ≡ c.args.key = search rules in
    let value : to_z w64 (of_z w64 c.args.value) ≡ c.args.value = search rules in
    simp append_assoc (rw (key, value) at c.write.ensures.bytes)
