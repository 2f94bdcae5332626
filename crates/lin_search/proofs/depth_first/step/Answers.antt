use Rattle.lin_history.specs.Problems.Problem.{problem_of}
use Rattle.lin_search.proofs.PathLemmas.{step_tells, ok_map}
use Rattle.std.proofs.Common.{◌≡◌, Option, Some, None, sym}
use Rattle.lin_search.proofs.depth_first.step.Goals as goal

some_not_none : {A : Type 0} (x : A) (answer : Option A) → Some x ≡ answer → answer ≡ None → ⊥
some_not_none x answer e f = cc

pub passed_over-requires : goal.passed_over-requires
passed_over-requires g c = (c.requires.progress.0, c.requires.progress.1, c.args.tally.now.left, rw c.in-Some.is at c.requires.progress.2)

pub try_call-requires-clause-progress : goal.try_call-requires-clause-progress
try_call-requires-clause-progress g c = (c.requires.progress.0, c.requires.progress.1, rw c.in-Some.is at c.requires.progress.2)

pub returns-in-None-2-clause-step : goal.returns-in-None-2-clause-step
returns-in-None-2-clause-step g c = rw c.in-Some.is c.try_call.ensures.step

pub returns-in-None-2-clause-holds : goal.returns-in-None-2-clause-holds
returns-in-None-2-clause-holds g c =
    rw c.in-Some.is (ok_map _ _ c.try_call.result (λ step k w off root limit progress h. k off root limit progress h) c.try_call.ensures.holds)

pub returns-in-Some-2-clause-step : goal.returns-in-Some-2-clause-step
returns-in-Some-2-clause-step g c =
    λ root limit k. rw c.in-Some.is ((rw c.in-Some-2.is at c.in_ok-next-in-Some.ensures.step) root limit c.args.tally.now.left (rw c.in-Some.is at k))

pub returns-in-Some-2-clause-holds : goal.returns-in-Some-2-clause-holds
returns-in-Some-2-clause-holds g c = λ w off. absurd (some_not_none _ _ (sym c.in-Some-2.is) (c.in_ok-next-in-Some.ensures.none off))

pub go_back-requires-clause-progress : goal.go_back-requires-clause-progress
go_back-requires-clause-progress g c = (c.requires.progress.0, c.requires.progress.1, rw c.in-None.is at c.requires.progress.2)

pub returns-in-None-clause-step : goal.returns-in-None-clause-step
returns-in-None-clause-step g c =
    rw (c.in-None.is, c.go_back.ensures.left)
    (ok_map _ _ c.go_back.result (λ step k root limit progress. step_tells (problem_of g.O.SeqObject.after g.O.State.PartialEq.eq g.O.Reply.PartialEq.eq c.args.path.now.entries.problem) root limit _ _ _ _ _ _ step (k root limit progress)) c.go_back.ensures.step)

pub returns-in-None-clause-holds : goal.returns-in-None-clause-holds
returns-in-None-clause-holds g c = rw c.in-None.is c.go_back.ensures.holds
