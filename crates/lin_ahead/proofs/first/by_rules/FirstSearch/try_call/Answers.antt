use Rattle.std.proofs.Common.{ap}
use Rattle.lin_search.specs.Path.{Frame}
use Rattle.lin_search.proofs.PathLemmas.{frames_same}
use Rattle.lin_ahead.proofs.first.FirstLemmas.{begins_skipped, first_calls, first_lifted, first_skip, left_less}
use Rattle.lin_ahead.proofs.first.by_rules.FirstSearch.try_call.Goals as goal

pub after-position-requires-clause-lifted : goal.after-position-requires-clause-lifted
after-position-requires-clause-lifted g c = first_calls _ _ _ _ _ _ c.requires.progress

pub returns-then-not-branch-clause-step : goal.returns-then-not-branch-clause-step
returns-then-not-branch-clause-step g c =
    let on = first_skip _ _ _ _ _ _ _ c.requires.progress (c.in_ok-may_begin.ensures c.if-not-branch.true) c.after-position.ensures.candidate in
    (on.0, left_less g.O.SeqObject.undone _ _ _ _ _ _ _ on.1)

pub lift-requires-clause-lifted : goal.lift-requires-clause-lifted
lift-requires-clause-lifted g c = first_calls _ _ _ _ _ _ c.requires.progress

pub after-position-requires-in_default-clause-lifted :
    goal.after-position-requires-in_default-clause-lifted
after-position-requires-in_default-clause-lifted g c =
    let same = rw c.in_default.is at c.in_ok-frame.ensures.kept in
    rw same (first_calls _ _ _ _ _ _ c.requires.progress)

pub returns-in_default-clause-step : goal.returns-in_default-clause-step
returns-in_default-clause-step g c =
    let same = rw c.in_default.is at c.in_ok-frame.ensures.kept in
    let none = begins_skipped _ _ _ _ c.requires.progress.reachable.flags (rw c.in_default.is at c.in_ok-frame.ensures.none) in
    let on = first_skip _ _ _ _ _ _ _ c.requires.progress none (rw same at c.after-position-in_default.ensures.candidate) in
    rw same (on.0, left_less g.O.SeqObject.undone _ _ _ _ _ _ _ on.1)

pub returns-clause-step : goal.returns-clause-step
returns-clause-step g c =
    let is = rw c.in-Some.is at c.in_ok-frame.ensures.frame in
    let state = ap (λ (f : Frame g.row.O-State.Denot). f.state) is in
    rw (frames_same g.O.SeqObject.undone _ _ _ _ (ap (λ v. v.items) c.lift.ensures.frames) state) (first_lifted _ _ _ _ _ _ _ c.args.call _ _ c.requires.progress (rw c.in-Some.is at c.in_ok-frame.ensures.next) (rw c.in-Some.is at c.in_ok-frame.ensures.reachable) (rw c.in-Some.is at c.in_ok-frame.ensures.last) (rw c.in-Some.is at c.in_ok-frame.ensures.lifted) is)
