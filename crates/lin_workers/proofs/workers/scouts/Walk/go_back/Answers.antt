use Rattle.lin_history.specs.Problems.Problem.{problem_of}
use Rattle.lin_search.specs.AlikeLemmas.{alike_refuted, turned}
use Rattle.lin_search.specs.SameLemmas.{alike_itself}
use Rattle.lin_workers.specs.Scouting.{turn_of}
use Rattle.lin_workers.proofs.ScoutingLemmas.{turns_split, turn_last, at_end}
use Rattle.lin_workers.proofs.workers.scouts.Walk.go_back.Goals as goal

pub copy-requires : goal.copy-requires
copy-requires g c = rw (c.config.ensures, c.problem-problem.ensures) c.requires.scouted.at.reachable

pub leave-requires-clause-turn : goal.leave-requires-clause-turn
leave-requires-clause-turn g c =
    let split = turns_split g.O.SeqObject.undone _ c.pop.new.self.items c.in-Some.turn c.args.self.now.path.config.state (rw c.in-Some.is at c.pop.ensures.items) in
    rw (← c.turn.view_is) at (turn_last (problem_of g.O.SeqObject.after g.O.State.PartialEq.eq g.O.Reply.PartialEq.eq c.args.self.now.path.entries.problem) _ _ _ _ (turn_of g.O.SeqObject.undone c.in-Some.turn c.args.self.now.path.config.state) c.requires.scouted.way split)

pub leave-requires-clause-refuted : goal.leave-requires-clause-refuted
leave-requires-clause-refuted g c = at_end (problem_of g.O.SeqObject.after g.O.State.PartialEq.eq g.O.Reply.PartialEq.eq c.args.self.now.path.entries.problem) c.args.self.now.path.config _ _ c.requires.scouted.at

pub note_at-requires-clause-refuted : goal.note_at-requires-clause-refuted
note_at-requires-clause-refuted g c =
    let alike = alike_itself c.lawful.ensures c.args.self.now.path.entries.problem in
    let same = rw c.config.ensures at c.in_ok-refuted.ensures.state in
    rw (c.problem-problem.ensures, c.in_ok-refuted.ensures.lifted, c.config.ensures) (alike_refuted alike _ _ _ _ (turned alike _ _ same) (at_end (problem_of g.O.SeqObject.after g.O.State.PartialEq.eq g.O.Reply.PartialEq.eq c.args.self.now.path.entries.problem) c.args.self.now.path.config _ _ c.requires.scouted.at))
