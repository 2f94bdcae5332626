use Rattle.std.proofs.Common.{ap, refl}
use Rattle.lin_object.specs.StepBacks.{state_before}
use Rattle.lin_search.specs.Path.{frames_of}
use Rattle.lin_search.proofs.PathLemmas.{frames_end, frames_same}
use Rattle.lin_history.specs.Problems.Problem.{problem_of}
use Rattle.lin_ahead.specs.First.FirstProgress.{IsFirstProgress}
use Rattle.lin_ahead.proofs.first.FirstLemmas.{lifted_here, lifted_last, refuted_among, first_hit, first_push, ok_three}
use Rattle.lin_ahead.proofs.first.by_rules.FirstSearch.go_on.Goals as goal

pub leave-requires-clause-lifted : goal.leave-requires-clause-lifted
leave-requires-clause-lifted g c = lifted_here _ _ _ _ _ _ c.requires.lifted

pub leave-requires-clause-last : goal.leave-requires-clause-last
leave-requires-clause-last g c = lifted_last _ _ _ _ _ _ c.requires.lifted

pub returns-then-has-clause-progress : goal.returns-then-has-clause-progress
returns-then-has-clause-progress g c =
    let k = c.requires.lifted in
    let p = problem_of g.O.SeqObject.after g.O.State.PartialEq.eq g.O.Reply.PartialEq.eq c.args.self.now.path.entries.problem in
    let left = c.leave.new.self in
    let refuted = refuted_among k.progress.alike _ _ _ k.progress.refuted (rw c.config-2.ensures at (c.has.ensures c.if-has.true)) in
    let items = ap (λ v. v.items) c.leave.ensures.frames in
    ok_three _ _ _ (IsFirstProgress p left.refuted left.lifts left.path.entries.lifted (frames_of g.O.SeqObject.undone left.path.frames.items left.path.config.state) left.path.config) c.leave.result
    (λ next lifted state candidate.
    let same = frames_same g.O.SeqObject.undone left.path.frames.items c.args.self.now.path.frames.items left.path.config.state (state_before g.O.SeqObject.undone c.args.frame.back c.args.self.now.path.config.state) items state in
    rw (same, c.leave.ensures.refuted, c.leave.ensures.lifts) (first_hit _ _ _ _ _ _ k _ _ next c.leave.ensures.last lifted state refuted candidate))
    c.leave.ensures.lifted c.leave.ensures.state c.leave.ensures.candidate

pub descend-requires : goal.descend-requires
descend-requires g c = lifted_here _ _ _ _ _ _ c.requires.lifted

pub returns-clause-progress : goal.returns-clause-progress
returns-clause-progress g c =
    rw (c.descend.ensures.entries, c.descend.ensures.config, c.in_ok-descend.ensures.frames, frames_end g.O.SeqObject.undone c.args.self.now.path.frames.items c.args.frame c.args.self.now.path.config.state) (first_push _ _ _ _ _ _ c.requires.lifted _ _ refl c.requires.incomplete c.in_ok-descend.ensures.candidate)
