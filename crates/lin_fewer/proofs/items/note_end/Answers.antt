use Rattle.std.proofs.Common.{◌≡◌, rules, w64, to_z, of_z}
use Rattle.std.specs.Ordering.{int_eq}
use Rattle.indexmap.specs.IndexMap.{get}
use Rattle.lin_fewer.proofs.ItemLemmas.{ends_skip, ends_more}
use Rattle.lin_fewer.proofs.items.note_end.Goals as goal

pub returns-in_default : goal.returns-in_default
returns-in_default c = ends_skip c.args.problem.now (get int_eq c.args.ends.now) c.args.call c.requires.ends (λ v h. absurd (let e = rw c.in_default.is at (c.item_returned.ensures v h) in cc))

pub returns : goal.returns
returns c =
    let same : to_z w64 (of_z w64 c.in-Some.item) ≡ c.in-Some.item = search rules in
    ends_more c.args.problem.now (get int_eq c.args.ends.now) c.args.call c.requires.ends c.in-Some.item (get int_eq c.note.new.ends) (λ v h. rw c.in-Some.is at (c.item_returned.ensures v h)) (rw same at c.in_ok-note.ensures.own) (rw same at c.note.ensures.others)
