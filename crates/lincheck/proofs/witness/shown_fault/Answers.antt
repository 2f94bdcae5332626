use Rattle.std.proofs.Common.{◌≡◌, map, ap, ◌∙◌, List, ℕ}
use Rattle.lin_history.specs.Problems.AnyProblem.{any_problem}
use Rattle.lincheck.specs.Explained.{told_in}
use Rattle.lincheck.proofs.ExplainedLemmas.{core_told, sums_told}
use Rattle.lincheck.proofs.JudgeLemmas.{IsPart}
use Rattle.lincheck.proofs.witness.shown_fault.Goals as goal

pub returns-in_ok-calls-in-Core : goal.returns-in_ok-calls-in-Core
returns-in_ok-calls-in-Core c history object start calls fault =
    let part : IsPart history object c.args.problem.now.calls c.args.problem.now.start = record { calls_are = calls; start_is = start } in
    let core = c.in-Core.core in
    let are : c.in_ok-calls-in-Core.calls.items ≡ map (told_in (any_problem c.args.problem.now) core.from core.event) core.calls.items = c.in_ok-calls-in-Core.ensures ∙ ap (λ (l : List ℕ). map (told_in (any_problem c.args.problem.now) core.from core.event) l) c.as_slice.ensures.value in
    core_told history object c.args.problem.now.calls c.args.problem.now.start core.from core.event core.key core.values.items core.calls.items core.firsts.items c.in_ok-calls-in-Core.calls.items part
    (rw c.in-Core.is at fault) are

pub returns-in-Sums : goal.returns-in-Sums
returns-in-Sums c history object start calls fault =
    let part : IsPart history object c.args.problem.now.calls c.args.problem.now.start = record { calls_are = calls; start_is = start } in (
      c.in-Sums.fault,
      sums_told history object c.args.problem.now.calls c.args.problem.now.start c.in-Sums.fault part (rw c.in-Sums.is at fault),
      c.shown.ensures,
    )
