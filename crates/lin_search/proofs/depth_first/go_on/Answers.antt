use Rattle.std.proofs.Common.{ap}
use Rattle.lin_search.proofs.PathLemmas.{frames_end, frames_same, on_unless_ended, lifted_here, lifted_last, lifted_room, lifted_back, step_hit, step_push, holds_hit, holds_push}
use Rattle.lin_search.proofs.depth_first.go_on.Goals as goal

pub leave-requires-clause-lifted : goal.leave-requires-clause-lifted
leave-requires-clause-lifted g c = lifted_here _ _ _ _ _ _ _ _ c.requires.lifted.4

pub leave-requires-clause-last : goal.leave-requires-clause-last
leave-requires-clause-last g c = lifted_last _ _ _ _ _ _ _ _ c.requires.lifted.4

pub leave-requires-clause-room : goal.leave-requires-clause-room
leave-requires-clause-room g c = lifted_room _ _ _ _ _ _ _ _ c.requires.lifted.4 _ (rw (c.problem-problem.ensures, c.config.ensures) at c.in-Some.ensures.refuted)

pub descend-requires : goal.descend-requires
descend-requires g c = lifted_here _ _ _ _ _ _ _ _ c.requires.lifted.4

pub unless_ended-on-requires : goal.unless_ended-on-requires
unless_ended-on-requires g c = rw (c.problem-problem.ensures, c.call-call.ensures) c.requires.lifted.4.progress.at.minimal.within

pub returns-in_ok-position-in-Some-clause-step : goal.returns-in_ok-position-in-Some-clause-step
returns-in_ok-position-in-Some-clause-step g c =
    λ root from limit left after taken k.
    let back = c.leave.ensures.last k.before k.last in
    let here = lifted_back _ _ _ _ _ _ _ _ k _ _ back c.in_ok-position-in-Some.ensures.lifted c.in_ok-position-in-Some.ensures.state in
    let same = frames_same g.O.SeqObject.undone _ _ _ _ (ap (λ v. v.items) c.leave.ensures.frames) c.in_ok-position-in-Some.ensures.state in
    rw same (on_unless_ended root limit _ _ after _ _ c.args.path.now.config.state _ c.in_ok-position-in-Some.position _ (rw here k.next) c.in_ok-position-in-Some.ensures.candidate (rw (c.problem-problem.ensures, c.call-call.ensures) at c.unless_ended-on.ensures.ended) (step_hit root limit _ _ _ left after from _ _ _ _ _ _ taken k back here (rw (c.problem-problem.ensures, c.config.ensures) at c.in-Some.ensures.refuted) c.in_ok-position-in-Some.ensures.longer c.in_ok-position-in-Some.ensures.not_longer c.in_ok-position-in-Some.ensures.candidate))

pub returns-in_ok-position-in-Some-clause-holds : goal.returns-in_ok-position-in-Some-clause-holds
returns-in_ok-position-in-Some-clause-holds g c =
    λ off root from limit left k h.
    let back = c.leave.ensures.last k.before k.last in
    let same = frames_same g.O.SeqObject.undone _ _ _ _ (ap (λ v. v.items) c.leave.ensures.frames) c.in_ok-position-in-Some.ensures.state in
    rw (c.unless_ended-on.ensures.same off, same) (holds_hit (g.M.Memo.holds c.args.memo.now) (g.M.Memo.holds c.look_at.new.memo) _ _ from _ _ c.args.path.now.config.state _ c.look_at.ensures.only (g.met.M.Memo.lasting _ _ c.look_at.ensures.changes) (lifted_back _ _ _ _ _ _ _ _ k _ _ back c.in_ok-position-in-Some.ensures.lifted c.in_ok-position-in-Some.ensures.state) k.next (rw (c.config.ensures, k.set) at c.in-Some.ensures.held) c.in_ok-position-in-Some.ensures.candidate h)

pub returns-in_ok-descend-in-None-clause-step : goal.returns-in_ok-descend-in-None-clause-step
returns-in_ok-descend-in-None-clause-step g c =
    λ root from limit left after taken k.
    rw (c.descend.ensures.entries, c.descend.ensures.config, c.in_ok-descend-in-None.ensures.frames, frames_end g.O.SeqObject.undone c.args.path.now.frames.items c.args.frame c.args.path.now.config.state) (step_push root limit _ _ left after from _ _ _ _ taken k c.requires.incomplete c.in_ok-descend-in-None.ensures.longest c.in_ok-descend-in-None.ensures.candidate)

pub returns-in_ok-descend-in-None-clause-holds : goal.returns-in_ok-descend-in-None-clause-holds
returns-in_ok-descend-in-None-clause-holds g c =
    λ off root from limit left k h.
    rw (c.descend.ensures.config, c.in_ok-descend-in-None.ensures.frames, frames_end g.O.SeqObject.undone c.args.path.now.frames.items c.args.frame c.args.path.now.config.state) (holds_push (g.M.Memo.holds c.args.memo.now) (g.M.Memo.holds c.look_at.new.memo) _ _ _ from _ _ c.look_at.ensures.only (g.met.M.Memo.lasting _ _ c.look_at.ensures.changes) k.state k.set c.in_ok-descend-in-None.ensures.candidate h)
