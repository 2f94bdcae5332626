use Rattle.std.proofs.Common.{ℕ, List, sym, ap, subst, arith, Contains}
use Rattle.lin_board.specs.Facts.{SeatFacts}
use Rattle.lin_board.proofs.StepLemmas.{found_allowed}
use Rattle.lin_board.proofs.SeatLemmas.{found_seat}
use Rattle.lin_board.proofs.board.Board.found.Goals as goal

pub lower_least-requires-clause-allowed : goal.lower_least-requires-clause-allowed
lower_least-requires-clause-allowed c =
    let parts = c.seat.invariant.parts in
    let claimed = subst (λ (l : List ℕ). Contains l c.args.task) (sym (ap (λ (s : SeatFacts). s.claimed) c.seat.view_is)) c.requires.claimed in
    found_allowed c.self.inside.table.shared.key _ _ _ c.args.task (omega arith) claimed

pub invariant_of-seat : goal.invariant_of-seat
invariant_of-seat c =
    let claimed = subst (λ (l : List ℕ). Contains l c.args.task) (sym (ap (λ (s : SeatFacts). s.claimed) c.seat.view_is)) c.requires.claimed in
    let told = c.lower_least.ensures.tells in found_seat _ _ _ _ told.slots c.seat.invariant c.args.task claimed told.found
