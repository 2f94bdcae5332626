use Rattle.lin_search.specs.SameLemmas.{alike_itself}
use Rattle.lin_workers.proofs.WidthLemmas.{cut_widest}
use Rattle.lin_workers.proofs.TaskLemmas.{decided}
use Rattle.lin_workers.proofs.tasks.cutting.cut_in_time.Goals as goal

pub returns-clause-cut : goal.returns-clause-cut
returns-clause-cut g c =
    cut_widest _ (alike_itself c.lawful.ensures c.args.problem.now) _ c.in_ok-levels.ensures.0 c.in_ok-levels.levels.widest.items c.in_ok-levels.levels.last.items _ c.into_widest.ensures.wider c.into_widest.ensures.as_wide c.in_ok-levels.ensures.1 c.in_ok-levels.ensures.2

pub returns-clause-decides : goal.returns-clause-decides
returns-clause-decides g c =
    let chosen = cut_widest _ (alike_itself c.lawful.ensures c.args.problem.now) _ c.in_ok-levels.ensures.0 c.in_ok-levels.levels.widest.items c.in_ok-levels.levels.last.items _ c.into_widest.ensures.wider c.into_widest.ensures.as_wide c.in_ok-levels.ensures.1 c.in_ok-levels.ensures.2 in
    decided _ (alike_itself c.lawful.ensures c.args.problem.now) chosen.0 _ chosen.1
