use Rattle.std.proofs.Common.{refl, arith}
use Rattle.lin_history.specs.Problems.Problem.{problem_of}
use Rattle.lin_workers.specs.Scouting.{turn_of}
use Rattle.lin_workers.proofs.ScoutingLemmas.{turns_same, turn_minimal_call, turn_room, scouted_back}
use Rattle.lin_workers.proofs.workers.scouts.Walk.leave.Goals as goal

pub with_turn-longest-requires-clause-call : goal.with_turn-longest-requires-clause-call
with_turn-longest-requires-clause-call g c =
    let minimal = turn_minimal_call (problem_of g.O.SeqObject.after g.O.State.PartialEq.eq g.O.Reply.PartialEq.eq c.args.self.now.path.entries.problem) _ _ _ (turn_of g.O.SeqObject.undone (record { frame = c.args.frame; up = c.args.is_up }) c.args.self.now.path.config.state) c.requires.turn in
    let within = minimal.2.within in
    let few = rw c.problem.ensures at c.calls-calls.ensures.few in
    omega (arith, within, few)

pub with_turn-longest-requires-clause-deep : goal.with_turn-longest-requires-clause-deep
with_turn-longest-requires-clause-deep g c =
    let room = turn_room (problem_of g.O.SeqObject.after g.O.State.PartialEq.eq g.O.Reply.PartialEq.eq c.args.self.now.path.entries.problem) _ _ _ (turn_of g.O.SeqObject.undone (record { frame = c.args.frame; up = c.args.is_up }) c.args.self.now.path.config.state) _ c.requires.turn c.requires.refuted in
    let few = rw c.problem.ensures at c.calls-calls.ensures.few in
    omega (arith, room, few)

pub unlift-requires-clause-lifted : goal.unlift-requires-clause-lifted
unlift-requires-clause-lifted g c = c.requires.turn.set

pub unlift-requires-clause-last : goal.unlift-requires-clause-last
unlift-requires-clause-last g c = turn_minimal_call (problem_of g.O.SeqObject.after g.O.State.PartialEq.eq g.O.Reply.PartialEq.eq c.args.self.now.path.entries.problem) _ _ _ (turn_of g.O.SeqObject.undone (record { frame = c.args.frame; up = c.args.is_up }) c.args.self.now.path.config.state) c.requires.turn

pub after-requires : goal.after-requires
after-requires g c =
    let minimal = turn_minimal_call (problem_of g.O.SeqObject.after g.O.State.PartialEq.eq g.O.Reply.PartialEq.eq c.args.self.now.path.entries.problem) _ _ _ (turn_of g.O.SeqObject.undone (record { frame = c.args.frame; up = c.args.is_up }) c.args.self.now.path.config.state) c.requires.turn in
    let before = c.unlift.ensures.last minimal.0 minimal.1 in
    rw (c.entries.ensures, c.unlift.ensures.problem, c.call-call.ensures, before) minimal.2

pub returns-clause-scouted : goal.returns-clause-scouted
returns-clause-scouted g c =
    rw (turns_same g.O.SeqObject.undone c.args.self.now.turns.items c.args.self.now.turns.items _ _ refl c.in_ok-unlift.ensures.state) (scouted_back (problem_of g.O.SeqObject.after g.O.State.PartialEq.eq g.O.Reply.PartialEq.eq c.args.self.now.path.entries.problem) _ _ _ _ c.unlift.new.self.config (turn_of g.O.SeqObject.undone (record { frame = c.args.frame; up = c.args.is_up }) c.args.self.now.path.config.state) c.args.deep c.with_turn-longest.result c.after.result c.requires.turn c.requires.refuted c.unlift.ensures.last c.in_ok-unlift.ensures.lifted c.in_ok-unlift.ensures.state c.with_turn-longest.ensures c.after.ensures.up c.after.ensures.longest (rw (c.entries.ensures, c.unlift.ensures.problem, c.call-call.ensures) at c.after.ensures.candidate))
