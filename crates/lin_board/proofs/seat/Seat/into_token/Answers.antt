use Rattle.std.proofs.Common.{subst, All, Contains}
use Rattle.lin_board.specs.Facts.{SeatFacts}
use Rattle.lin_board.proofs.seat.Seat.into_token.Goals as goal

pub returns-clause-among : goal.returns-clause-among
returns-clause-among c = subst (λ (s : SeatFacts). All (Contains s.claimed) s.found) c.self.view_is c.self.invariant.among
