use Rattle.std.proofs.Common.{◌≡◌, ap}
use Rattle.lin_history.specs.Problems.Problem.{problem_of}
use Rattle.lin_search.specs.Path.{Frame}
use Rattle.lin_search.proofs.PathLemmas.{calls_here, frames_same, lifted_now, step_skip, holds_skip, answer_refused, not_refusal, step_tells, ok_map}
use Rattle.lin_search.proofs.depth_first.try_call.Goals as goal

pub lift-requires-clause-lifted : goal.lift-requires-clause-lifted
lift-requires-clause-lifted g c = calls_here _ _ _ _ _ _ _ _ c.requires.progress.2

pub lift-requires-clause-reachable : goal.lift-requires-clause-reachable
lift-requires-clause-reachable g c = c.requires.progress.2.at.reachable

pub lift-requires-clause-minimal : goal.lift-requires-clause-minimal
lift-requires-clause-minimal g c = c.requires.progress.2.at.minimal

pub after-requires-clause-lifted : goal.after-requires-clause-lifted
after-requires-clause-lifted g c =
    let same = rw c.in_default.is at c.in_ok-frame.ensures.kept in
    rw same (calls_here _ _ _ _ _ _ _ _ c.requires.progress.2)

pub returns-in_default-clause-step : goal.returns-in_default-clause-step
returns-in_default-clause-step g c =
    λ root limit k.
    let same = rw c.in_default.is at c.in_ok-frame.ensures.kept in
    rw same (step_skip root limit _ _ _ _ _ _ _ _ c.after.ensures.longest (rw c.in_default.is at c.in_ok-frame.ensures.none) (rw same at c.after.ensures.candidate) k)

pub returns-in_default-clause-holds : goal.returns-in_default-clause-holds
returns-in_default-clause-holds g c =
    λ off root limit k h.
    let same = rw c.in_default.is at c.in_ok-frame.ensures.kept in
    rw same (holds_skip _ _ _ _ _ _ (rw c.in_default.is at c.in_ok-frame.ensures.none) (rw same at c.after.ensures.candidate) h)

pub returns-in-Some-refusal-clause-step : goal.returns-in-Some-refusal-clause-step
returns-in-Some-refusal-clause-step g c =
    λ root limit k. (
      answer_refused root limit _ _ _ _ _ _ _ _ c.in-Some-refusal.outcome (rw c.in-Some.is at c.in_ok-frame.ensures.next) k c.in-Some-refusal.ensures.refused,
      λ refutation. absurd (not_refusal _ _ c.in-Some-refusal.outcome c.in-Some-refusal.ensures.refused refutation),
    )

pub visit-requires-clause-lifted : goal.visit-requires-clause-lifted
visit-requires-clause-lifted g c =
    let k = c.requires.progress in
    let is = rw c.in-Some.is at c.in_ok-frame.ensures.frame in
    let state = ap (λ (f : Frame g.row.O-State.Denot). f.state) is in
    let frames = frames_same g.O.SeqObject.undone _ _ _ _ (ap (λ v. v.items) c.lift.ensures.frames) state in
    (k.0, c.args.path.now.config, k.1, c.args.tally.now.left, rw (c.lift.ensures.problem, frames) (lifted_now k.0 k.1 _ _ _ c.args.tally.now.left _ _ c.args.candidate.call c.args.candidate.longest _ k.2 (rw c.in-Some.is at c.in_ok-frame.ensures.next) (rw c.in-Some.is at c.in_ok-frame.ensures.reachable) (rw c.in-Some.is at c.in_ok-frame.ensures.last) (rw c.in-Some.is at c.in_ok-frame.ensures.lifted) is))

pub returns-clause-step : goal.returns-clause-step
returns-clause-step g c =
    let is = rw c.in-Some.is at c.in_ok-frame.ensures.frame in
    let state = ap (λ (f : Frame g.row.O-State.Denot). f.state) is in
    let call : c.in-Some.frame.call ≡ c.args.candidate.call = ap (λ (f : Frame g.row.O-State.Denot). f.call) is in
    let frames = frames_same g.O.SeqObject.undone _ _ _ _ (ap (λ v. v.items) c.lift.ensures.frames) state in
    ok_map _ _ c.visit.result
    (λ step k root limit progress.
    step_tells (problem_of g.O.SeqObject.after g.O.State.PartialEq.eq g.O.Reply.PartialEq.eq c.args.path.now.entries.problem) root limit _ _ _ _ _ _ step (k root c.args.path.now.config limit c.args.tally.now.left _ c.in_default-refusal.ensures.taken (lifted_now root limit _ _ _ c.args.tally.now.left _ _ c.args.candidate.call c.args.candidate.longest _ progress (rw c.in-Some.is at c.in_ok-frame.ensures.next) (rw c.in-Some.is at c.in_ok-frame.ensures.reachable) (rw c.in-Some.is at c.in_ok-frame.ensures.last) (rw c.in-Some.is at c.in_ok-frame.ensures.lifted) (rw call at is))))
    (rw (c.lift.ensures.problem, frames, call) at c.visit.ensures.step)

pub returns-clause-holds : goal.returns-clause-holds
returns-clause-holds g c =
    let is = rw c.in-Some.is at c.in_ok-frame.ensures.frame in
    let state = ap (λ (f : Frame g.row.O-State.Denot). f.state) is in
    let call : c.in-Some.frame.call ≡ c.args.candidate.call = ap (λ (f : Frame g.row.O-State.Denot). f.call) is in
    let frames = frames_same g.O.SeqObject.undone _ _ _ _ (ap (λ v. v.items) c.lift.ensures.frames) state in
    ok_map _ _ c.visit.result
    (λ step k off root limit progress h.
    k off root c.args.path.now.config limit c.args.tally.now.left (lifted_now root limit _ _ _ c.args.tally.now.left _ _ c.args.candidate.call c.args.candidate.longest _ progress (rw c.in-Some.is at c.in_ok-frame.ensures.next) (rw c.in-Some.is at c.in_ok-frame.ensures.reachable) (rw c.in-Some.is at c.in_ok-frame.ensures.last) (rw c.in-Some.is at c.in_ok-frame.ensures.lifted) (rw call at is)) h)
    (rw (c.lift.ensures.problem, frames, call) at c.visit.ensures.holds)
