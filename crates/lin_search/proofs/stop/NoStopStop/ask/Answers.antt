use Rattle.lin_search.proofs.stop.NoStopStop.ask.Goals as goal

pub returns-clause-told : goal.returns-clause-told
returns-clause-told c = tt
