use Rattle.lin_workers.proofs.workers.scouting.search_unless_told.Goals as goal

pub returns-in-None-clause-stop : goal.returns-in-None-clause-stop
returns-in-None-clause-stop g c = g.met.S.Stop.chained _ _ _ c.ask.ensures.follows c.search_unless_starved.ensures.stop
