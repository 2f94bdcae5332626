use Rattle.std.proofs.Common.{ap, inl, inr, w64, of_z}
use Rattle.std.proofs.lemmas.Bool.Decides.{eqb_tells}
use Rattle.lin_fewer.proofs.ItemLemmas.{same_item}
use Rattle.lin_fewer.proofs.items.is_taker_left.Goals as goal

pub returns-in-Some : goal.returns-in-Some
returns-in-Some c = λ differs outside h. elim (eqb_tells (of_z w64 c.in-Some.item) (of_z w64 c.args.ended.item)) [
  | inl q ↦ absurd (let e = q.0 in cc)
  | inr q ↦ absurd (q.1 (ap (of_z w64) (same_item c.in-Some.item c.args.ended.item (rw c.in-Some.is at (c.item_returned.ensures c.args.ended.item h)))))
]

pub returns-in-None : goal.returns-in-None
returns-in-None c = λ none outside h. absurd (let e = rw c.in-None.is at (c.item_returned.ensures c.args.ended.item h) in cc)
