use Rattle.std.proofs.Common.{◌≡◌, ◌≤◌, length, take}
use Rattle.serde_json.specs.Data.{no_members}
use Rattle.serde_json.specs.Find.{get_member}
use Rattle.lin_text.specs.FlatObject.{members_with}
use Rattle.lin_text.proofs.flat_object.FlatObject.find.Given as goal

-- No member behind the first `left` has the key.
abbrev pub invariant-loop-left : goal.invariant-loop-left
invariant-loop-left l =
    (l.left ≤ length l.members)
    × (get_member l.key (members_with l.self.members.items no_members) ≡ get_member l.key (members_with (take l.left l.members) no_members))

abbrev pub decreases-loop-left : goal.decreases-loop-left
decreases-loop-left l = l.left
