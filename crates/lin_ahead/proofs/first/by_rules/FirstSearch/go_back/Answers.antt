use Rattle.std.proofs.Common.{ap}
use Rattle.lin_history.specs.Problems.Problem.{problem_of}
use Rattle.lin_history.specs.Problems.Configurations.{IsRefuted}
use Rattle.lin_search.specs.Path.{frame_of}
use Rattle.lin_search.proofs.PathLemmas.{frames_same, frames_split, none_kept}
use Rattle.lin_ahead.specs.First.FirstProgress.{AreRefuted}
use Rattle.lin_ahead.proofs.first.FirstLemmas.{first_none, first_last, first_calls, first_refuted, first_back, refuted_kept, refuted_same, left_less}
use Rattle.lin_ahead.proofs.first.by_rules.FirstSearch.go_back.Goals as goal

pub returns-in_default-clause-step : goal.returns-in_default-clause-step
returns-in_default-clause-step g c = first_none _ _ _ _ _ (none_kept g.O.SeqObject.undone _ _ (rw c.in_default.is at c.pop.ensures.none).0) c.requires.progress

pub leave-requires-clause-lifted : goal.leave-requires-clause-lifted
leave-requires-clause-lifted g c = rw (c.pop.ensures.entries, c.pop.ensures.config) (first_calls _ _ _ _ _ _ c.requires.progress)

pub leave-requires-clause-last : goal.leave-requires-clause-last
leave-requires-clause-last g c =
    let split = frames_split g.O.SeqObject.undone _ c.pop.new.self.frames.items c.in-Some.frame c.args.self.now.path.config.state c.in-Some.ensures.some in
    rw c.pop.ensures.entries (first_last _ _ _ _ _ (frame_of g.O.SeqObject.undone c.in-Some.frame c.args.self.now.path.config.state) _ split c.requires.progress)

pub copy-requires : goal.copy-requires
copy-requires g c = rw (c.problem-problem.ensures, c.config.ensures, c.pop.ensures.entries, c.pop.ensures.config) c.requires.progress.reachable

pub returns-clause-step : goal.returns-clause-step
returns-clause-step g c =
    let split = frames_split g.O.SeqObject.undone _ c.pop.new.self.frames.items c.in-Some.frame c.args.self.now.path.config.state c.in-Some.ensures.some in
    let lifted = rw (c.config.ensures, c.pop.ensures.config) at c.in_ok-refuted.ensures.lifted in
    let same = rw (c.config.ensures, c.pop.ensures.config) at c.in_ok-refuted.ensures.state in
    let refuted : IsRefuted (problem_of g.O.SeqObject.after g.O.State.PartialEq.eq g.O.Reply.PartialEq.eq c.args.self.now.path.entries.problem) c.in_ok-refuted.refuted.lifted c.in_ok-refuted.refuted.state = refuted_same c.requires.progress.alike c.args.self.now.path.config c.in_ok-refuted.refuted lifted same (first_refuted _ _ _ _ _ c.requires.progress) in
    let kept : AreRefuted (problem_of g.O.SeqObject.after g.O.State.PartialEq.eq g.O.Reply.PartialEq.eq c.args.self.now.path.entries.problem) c.add.new.self = refuted_kept _ _ _ c.in_ok-add.ensures (rw c.leave.ensures.refuted c.requires.progress.refuted) refuted in
    let state = rw c.pop.ensures.config at c.in_ok-next.ensures.state in
    let items = ap (λ v. v.items) c.leave.ensures.frames in
    let back = first_back _ _ _ _ _ (frame_of g.O.SeqObject.undone c.in-Some.frame c.args.self.now.path.config.state) _ split c.requires.progress _ _ _ _ kept (rw c.pop.ensures.entries at c.leave.ensures.last) (rw c.pop.ensures.entries at c.in_ok-next.ensures.lifted) state (rw c.pop.ensures.entries at c.in_ok-next.ensures.candidate) in
    (rw (frames_same g.O.SeqObject.undone _ _ _ _ items state, c.leave.ensures.lifts) back.0, rw items (left_less g.O.SeqObject.undone _ _ _ _ _ _ _ back.1))

pub returns-clause-refuted : goal.returns-clause-refuted
returns-clause-refuted g c =
    let lifted = rw (c.config.ensures, c.pop.ensures.config) at c.in_ok-refuted.ensures.lifted in
    let same = rw (c.config.ensures, c.pop.ensures.config) at c.in_ok-refuted.ensures.state in
    let refuted : IsRefuted (problem_of g.O.SeqObject.after g.O.State.PartialEq.eq g.O.Reply.PartialEq.eq c.args.self.now.path.entries.problem) c.in_ok-refuted.refuted.lifted c.in_ok-refuted.refuted.state = refuted_same c.requires.progress.alike c.args.self.now.path.config c.in_ok-refuted.refuted lifted same (first_refuted _ _ _ _ _ c.requires.progress) in
    refuted_kept _ _ _ c.in_ok-add.ensures (rw c.leave.ensures.refuted c.requires.progress.refuted) refuted
