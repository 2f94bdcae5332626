use Rattle.std.proofs.Common.{rules}
use Rattle.lin_history.specs.Problems.AnyProblem.{any_problem}
use Rattle.lin_workers.specs.Verdict.{IsNumberStored}
use Rattle.lincheck.specs.Known.{IsKnownOf}
use Rattle.lincheck.specs.ObjectAnswer.{IsObjectAnswer}
use Rattle.lincheck.proofs.JudgeLemmas.{IsPart, at_part}
use Rattle.lincheck.proofs.judgement.judge_object.Goals as goal

pub returns-clause-answer : goal.returns-clause-answer
returns-clause-answer g c =
    let part : IsPart c.args.history.now c.args.object c.in_ok-problem.problem.calls c.in_ok-problem.problem.start = record { calls_are = c.in_ok-problem.ensures.calls; start_is = c.in_ok-problem.ensures.start } in
    at_part _ _ _ _ part (λ q. IsObjectAnswer q c.args.question c.args.setting.now.bounds c.in_ok-answer.answer) c.in_ok-answer.ensures.answer.0

pub returns-clause-stored : goal.returns-clause-stored
returns-clause-stored g c =
    let part : IsPart c.args.history.now c.args.object c.in_ok-problem.problem.calls c.in_ok-problem.problem.start = record { calls_are = c.in_ok-problem.ensures.calls; start_is = c.in_ok-problem.ensures.start } in
    at_part _ _ _ _ part (λ q. IsNumberStored q c.in_ok-answer.stored) c.in_ok-answer.ensures.answer.1

pub answer_object-requires-after_bounds : goal.answer_object-requires-after_bounds
answer_object-requires-after_bounds g c =
    let known : IsKnownOf (any_problem c.in_ok-problem.problem) c.nothing-known.result = record {
      refuted = search rules;
      order = search rules;
      fault = search rules;
      begun = c.nothing-known.ensures.begun (any_problem c.in_ok-problem.problem);
    } in
    λ κs bounds. known
