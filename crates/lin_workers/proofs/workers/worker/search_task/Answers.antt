use Rattle.lin_table.specs.SharedLemmas.{grown_itself, grown_twice}
use Rattle.lin_workers.specs.Heard.{heard_itself, heard_twice}
use Rattle.lin_workers.proofs.workers.worker.search_task.Goals as goal

pub returns-then-is_left-clause-seat : goal.returns-then-is_left-clause-seat
returns-then-is_left-clause-seat g c = heard_itself _

pub returns-then-is_left-clause-grown : goal.returns-then-is_left-clause-grown
returns-then-is_left-clause-grown g c = grown_itself _

pub returns-then-not-is_decided-clause-seat : goal.returns-then-not-is_decided-clause-seat
returns-then-not-is_decided-clause-seat g c = heard_twice _ _ _ c.scout_until_leading.ensures.seat c.search_over_table-searched.ensures.seat

pub returns-then-not-is_decided-clause-grown : goal.returns-then-not-is_decided-clause-grown
returns-then-not-is_decided-clause-grown g c = grown_twice _ _ _ c.scout_until_leading.ensures.grown c.search_over_table-searched.ensures.grown

pub returns-else-not-is_decided-clause-seat : goal.returns-else-not-is_decided-clause-seat
returns-else-not-is_decided-clause-seat g c = heard_twice _ _ _ c.scout_until_leading.ensures.seat c.search_over_table-searched.ensures.seat

pub returns-else-not-is_decided-clause-grown : goal.returns-else-not-is_decided-clause-grown
returns-else-not-is_decided-clause-grown g c = grown_twice _ _ _ c.scout_until_leading.ensures.grown c.search_over_table-searched.ensures.grown
