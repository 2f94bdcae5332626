use Rattle.std.proofs.Common.{sym, ap, ◌∙◌, arith}
use Rattle.lin_board.specs.Lists.Totals.{one_if}
use Rattle.lin_board.specs.Facts.{BoardFacts, SeatFacts}
use Rattle.lin_board.proofs.StepLemmas.{claim_allowed}
use Rattle.lin_board.proofs.SeatLemmas.{claimed_seat, ended_seat}
use Rattle.lin_board.proofs.board.Board.claim.Goals as goal

pub take_next-task-requires-clause-allowed : goal.take_next-task-requires-clause-allowed
take_next-task-requires-clause-allowed c =
    let parts = c.seat.invariant.parts in
    let ends = c.seat.invariant.ends in let not_ended = ap one_if c.if-seat.false in
    claim_allowed c.self.inside.table.shared.key _ _ _ (omega arith)

pub invariant_of-seat : goal.invariant_of-seat
invariant_of-seat c =
    let same = ap (λ (b : BoardFacts). b.tasks) (ap (λ (s : SeatFacts). s.board) c.seat.view_is ∙ c.requires ∙ sym c.self.view_is) in
    let below = c.if-task-self.true in
    let tells = c.take_next-task.ensures.tells in claimed_seat _ _ _ _ tells.slots c.seat.invariant c.take_next-task.result (tells.some (omega arith))

pub invariant_of-seat-else-task-self : goal.invariant_of-seat-else-task-self
invariant_of-seat-else-task-self c =
    let same = ap (λ (b : BoardFacts). b.tasks) (ap (λ (s : SeatFacts). s.board) c.seat.view_is ∙ c.requires ∙ sym c.self.view_is) in
    let above = c.if-task-self.false in
    let tells = c.take_next-task.ensures.tells in ended_seat _ _ _ _ tells.slots c.seat.invariant c.if-seat.false (tells.none (omega arith))
