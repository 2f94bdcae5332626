use Rattle.std.proofs.Common.{◌≡◌, sym, refl, ap, ◌∙◌, subst, arith, rules, Some}
use Rattle.std.proofs.lemmas.List.Elements.{All-pop}
use Rattle.lin_board.specs.Facts.{SeatFacts}
use Rattle.lin_board.specs.Gather.{Gathered}
use Rattle.lin_board.specs.declared.rule.View.{View}
use Rattle.lin_board.proofs.GatherLemmas.{begins, gathers}
use Rattle.lin_board.proofs.StepLemmas.{join_allowed}
use Rattle.lin_board.proofs.gather.gather.Goals as goal

pub loop-seat-init : goal.loop-seat-init
loop-seat-init c = record { same = refl; slots = refl; each = search (rules, c.requires.seats, c.requires.first.0); gathered = begins _ _; part = c.requires.first.1 }

pub join_seat-requires : goal.join_seat-requires
join_seat-requires c =
    let i = c.loop-seat.invariant in
    let mine = All-pop (λ (s : SeatFacts). s.board.id ≡ c.args.first.table_id) _ _ (Some c.in-Some.seat) c.in-Some.ensures.items i.each in
    let words = c.requires.words in
    (i.same ∙ c.requires.first.0, c.into_token.ensures.table ∙ mine.1 ∙ c.requires.first.0, c.into_token.ensures.empty, omega arith, join_allowed c.args.shared.now.key _ _ _ _ i.part)

pub loop-seat-preserved : goal.loop-seat-preserved
loop-seat-preserved c =
    let i = c.loop-seat.invariant in
    let joined = c.join_seat.ensures in
    let mine = All-pop (λ (s : SeatFacts). s.board.id ≡ c.args.first.table_id) _ _ (Some c.in-Some.seat) c.in-Some.ensures.items i.each in
    let view = ap (λ m. m.0) joined.2 in
    let parts = ap (λ (v : View). v.parts) view in
    let part = i.part in record {
      same = joined.0 ∙ i.same;
      slots = ap (λ m. m.1) joined.2 ∙ i.slots;
      each = mine.0;
      gathered = subst (λ (u : View). Gathered c.args.first.me.0 c.args.seats.items u c.pop.new.self.items) (sym view)
          (gathers _ _ _ _ _ c.into_token.result.me.0 c.in-Some.seat c.in-Some.ensures.items c.into_token.ensures.view c.into_token.ensures.among i.gathered);
      part = omega arith;
    }
