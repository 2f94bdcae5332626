use Rattle.std.proofs.Common.{◌≡◌, ◌∙◌, refl, ap}
use Rattle.lin_history.specs.Problems.Problem.{problem_of}
use Rattle.lin_object.specs.StepBacks.{state_before}
use Rattle.lin_search.specs.Path.{Frame, frame_of}
use Rattle.lin_workers.proofs.ScoutingLemmas.{turns_same, turn_lifted, scouted_skip}
use Rattle.lin_workers.proofs.workers.scouts.Walk.try_turn.Goals as goal

pub lift-requires-clause-lifted : goal.lift-requires-clause-lifted
lift-requires-clause-lifted g c = c.requires.scouted.way.set

pub lift-requires-clause-reachable : goal.lift-requires-clause-reachable
lift-requires-clause-reachable g c = c.requires.scouted.at.reachable

pub lift-requires-clause-minimal : goal.lift-requires-clause-minimal
lift-requires-clause-minimal g c = c.requires.scouted.at.minimal

pub after-next-requires : goal.after-next-requires
after-next-requires g c =
    let same = rw c.in_default.is at c.in_ok-frame.ensures.kept in
    rw (c.entries.ensures, same, c.requires.scouted.way.set) c.requires.scouted.at.minimal

pub returns-in_default-clause-step : goal.returns-in_default-clause-step
returns-in_default-clause-step g c =
    let same = rw c.in_default.is at c.in_ok-frame.ensures.kept in
    rw same (scouted_skip _ _ _ _ _ _ _ c.after-next.result c.requires.scouted (rw c.in_default.is at c.in_ok-frame.ensures.none) c.after-next.ensures.up c.after-next.ensures.longest (rw (c.entries.ensures, same) at c.after-next.ensures.candidate))

pub visit-requires-clause-turn : goal.visit-requires-clause-turn
visit-requires-clause-turn g c =
    let is : frame_of g.O.SeqObject.undone c.in-Some.frame c.lift.new.self.config.state ≡ record { state = c.args.self.now.path.config.state; call = c.args.call; longest = c.args.at.longest } = rw c.in-Some.is at c.in_ok-frame.ensures.frame in
    let state : state_before g.O.SeqObject.undone c.in-Some.frame.back c.lift.new.self.config.state ≡ c.args.self.now.path.config.state = ap (λ (f : Frame g.row.O-State.Denot). f.state) is in
    let turns = turns_same g.O.SeqObject.undone c.args.self.now.turns.items c.args.self.now.turns.items _ _ refl state in
    rw (c.lift.ensures.problem, turns) (turn_lifted (problem_of g.O.SeqObject.after g.O.State.PartialEq.eq g.O.Reply.PartialEq.eq c.args.self.now.path.entries.problem) _ _ _ _ c.lift.new.self.config c.args.at.is_up _ c.args.call (frame_of g.O.SeqObject.undone c.in-Some.frame c.lift.new.self.config.state) c.requires.scouted (rw c.in-Some.is at c.in_ok-frame.ensures.next) (rw c.in-Some.is at c.in_ok-frame.ensures.last) (rw c.in-Some.is at c.in_ok-frame.ensures.lifted) is)

pub visit-requires-clause-of : goal.visit-requires-clause-of
visit-requires-clause-of g c = λ h. rw c.lift.ensures.problem (c.requires.of h)

pub visit-requires-clause-reachable : goal.visit-requires-clause-reachable
visit-requires-clause-reachable g c =
    rw (c.lift.ensures.problem, (rw c.in-Some.is at c.in_ok-frame.ensures.lifted)) (rw c.in-Some.is at c.in_ok-frame.ensures.reachable)

pub returns-clause-problem : goal.returns-clause-problem
returns-clause-problem g c = c.visit.ensures.problem ∙ c.lift.ensures.problem

pub returns-clause-step : goal.returns-clause-step
returns-clause-step g c = rw c.lift.ensures.problem at c.visit.ensures.step
