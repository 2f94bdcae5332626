use Rattle.lin_workers.proofs.ScoutingLemmas.{turns_split, scouted_enter}
use Rattle.lin_workers.proofs.workers.scouts.Walk.descend.Goals as goal

pub returns-clause-scouted : goal.returns-clause-scouted
returns-clause-scouted g c =
    let split = turns_split g.O.SeqObject.undone _ c.args.self.now.turns.items (record { frame = c.args.frame; up = c.args.is_up }) c.args.self.now.path.config.state c.in_ok-push.ensures.items in
    scouted_enter _ _ _ _ _ _ c.enter.result split c.requires.turn c.requires.reachable c.requires.incomplete c.enter.ensures.longest (rw (← c.enter.ensures.up, c.entries.ensures) at c.enter.ensures.candidate)
