use Rattle.std.proofs.Common.{ap, ◌∙◌, arith, Some}
use Rattle.std.proofs.lemmas.List.Elements.{All-pop}
use Rattle.lin_table.specs.Hand.{CameWith}
use Rattle.lin_table.proofs.GatherLemmas.{gathers}
use Rattle.lin_table.proofs.PartLemmas.{join_allowed}
use Rattle.lin_table.proofs.gather.gather.Goals as goal

pub join_seat-requires : goal.join_seat-requires
join_seat-requires g c =
    let i = c.loop-hand.invariant in
    let mine = All-pop (CameWith c.args.first.table_id) _ _ (Some c.in-Some.hand) c.in-Some.ensures.items i.each in
    (i.same ∙ c.requires.first.0, c.into_token.ensures.table ∙ mine.1 ∙ c.requires.first.0, c.into_token.ensures.empty, c.requires.words, join_allowed g.O.State.PartialEq.eq c.args.shards.now.key _ _ _ _ i.part i.gathered.free c.into_token.ensures.view.free)

pub loop-hand-preserved : goal.loop-hand-preserved
loop-hand-preserved g c =
    let i = c.loop-hand.invariant in
    let joined = c.join_seat.ensures in
    let mine = All-pop (CameWith c.args.first.table_id) _ _ (Some c.in-Some.hand) c.in-Some.ensures.items i.each in
    let view = ap (λ m. m.0) joined.2 in
    let parts = ap (λ v. v.parts) view in
    let part = i.part in record {
      same = joined.0 ∙ i.same;
      slots = ap (λ m. m.1) joined.2 ∙ i.slots;
      each = mine.0;
      gathered = rw view (gathers _ _ _ _ _ c.into_token.result.me.0 c.in-Some.hand c.in-Some.ensures.items c.into_token.ensures.view i.gathered);
      part = omega arith;
    }
