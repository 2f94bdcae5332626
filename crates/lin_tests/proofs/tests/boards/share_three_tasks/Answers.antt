use Rattle.std.proofs.Common.{ℕ, List, sym, ap, subst, Contains}
use Rattle.std.specs.Option.{option_to_list}
use Rattle.std.proofs.lemmas.List.Elements.{Contains-append_left}
use Rattle.lin_board.specs.Facts.{SeatFacts}
use Rattle.lin_tests.proofs.tests.boards.share_three_tasks.Goals as goal

-- the seat claimed the task, then was answered by another claim and was told the least
pub found-requires-2-clause-claimed : goal.found-requires-2-clause-claimed
found-requires-2-clause-claimed c =
    let task : ℕ = c.in-Some.from_b in
    let first : Contains c.claim.new.seat.claimed task = c.in-Some.ensures.claimed in
    let second : Contains c.claim-4.new.seat.claimed task = subst (λ (l : List ℕ). Contains l task) (sym (ap (λ (s : SeatFacts). s.claimed) c.claim-4.ensures.changed)) (Contains-append_left c.claim.new.seat.claimed (option_to_list c.claim-4.result) task first) in
    subst (λ (l : List ℕ). Contains l task) (sym (ap (λ (s : SeatFacts). s.claimed) c.least-told_b.ensures.changed)) second
