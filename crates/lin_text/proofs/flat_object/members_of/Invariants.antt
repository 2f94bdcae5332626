use Rattle.std.proofs.Common.{◌≡◌, ℕ, ◌<◌, ◌≤◌, length}
use Rattle.json.specs.Json.{members, value}
use Rattle.serde_json.specs.Data.{no_members}
use Rattle.serde_json.specs.Read.{of_members, converted}
use Rattle.lin_text.specs.FlatObject.{members_with}
use Rattle.lin_text.proofs.flat_object.members_of.Given as goal

-- The members that were read so far are put in before those that the turns that are left will read.
abbrev pub invariant-members : goal.invariant-members
invariant-members l =
    (n : ℕ) × (length l.reader ≤ n)
    × ((depth : ℕ) → 0 < depth → converted (λ ms. of_members ms no_members) (members (value depth) (length l.initial.reader) l.initial.reader)
    ≡ converted (λ ms. of_members ms (members_with l.found.items no_members)) (members (value depth) n l.reader))

abbrev pub decreases-members : goal.decreases-members
decreases-members l = length l.reader
