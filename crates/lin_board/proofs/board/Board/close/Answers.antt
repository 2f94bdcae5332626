use Rattle.std.proofs.Common.{◌≡◌, ℕ, ◌∙◌, ap, sym, min, arith, Some}
use Rattle.std.proofs.lemmas.List.Elements.{All-pop, All-weaker}
use Rattle.lin_board.specs.declared.rule.Plan.{Plan}
use Rattle.lin_board.specs.Facts.{BoardFacts, SeatFacts}
use Rattle.lin_board.specs.Board.{IsSeatOf}
use Rattle.lin_board.proofs.EndLemmas.{closes}
use Rattle.lin_board.proofs.board.Board.close.Goals as goal

pub returns-clause-tally : goal.returns-clause-tally
returns-clause-tally c =
    let plan : Plan = c.self.inside.table.shared.key in
    let tasks : plan.tasks ≡ c.self.inside.tasks = ap (λ (p : Plan). p.tasks) c.self.invariant.plan in
    let seats : plan.seats ≡ c.self.inside.seats = ap (λ (p : Plan). p.seats) c.self.invariant.plan in
    let enough = c.if-len-self.false in let len = c.len.ensures in
    let all = c.gather-all.result in
    let next : ℕ = c.word-next.result in
    closes c.args.self c.args.seats.items c.tally_of.result plan _ _ all.id all.me.0 c.into_token.result.me.0 c.pop.new.self.items c.in-Some.last next c.word-least.result
    c.close_with-closed.ensures.values.2 c.word-next.ensures c.word-least.ensures (omega arith) c.in-Some.ensures.items c.into_token.ensures.view c.into_token.ensures.among c.gather-all.ensures.gathered
    (tasks ∙ ap (λ (b : BoardFacts). b.tasks) c.self.view_is) (c.tally_of.ensures.claimed ∙ ap (min next) (sym tasks)) c.tally_of.ensures.some c.tally_of.ensures.none

pub gather-all-requires-clause-seats : goal.gather-all-requires-clause-seats
gather-all-requires-clause-seats c =
    let mine = All-pop (IsSeatOf c.args.self) _ _ (Some c.in-Some.last) c.in-Some.ensures.items c.requires in
    All-weaker (IsSeatOf c.args.self) (λ (s : SeatFacts). s.board.id ≡ c.self.inside.table.shared.table_id) (λ s e. ap (λ (b : BoardFacts). b.id) (e ∙ sym c.self.view_is)) _ mine.0
