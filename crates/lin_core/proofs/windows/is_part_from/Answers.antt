use Rattle.lin_history.specs.Problems.AnyProblem.{any_problem}
use Rattle.lin_core.proofs.SuffixCoreLemmas.{enough_within_as}
use Rattle.lin_core.proofs.windows.is_part_from.Goals as goal

pub returns-clause-enough : goal.returns-clause-enough
returns-clause-enough c = λ yes. enough_within_as (any_problem c.args.problem.now) c.args.window.now.from c.args.window.now.event c.args.window.now.key c.args.part.now.calls c.as_slice-kept.result.now c.args.window.now.calls.items c.as_slice-values.result.now c.args.window.now.values.items c.as_slice-kept.ensures.value c.as_slice-values.ensures.value
    (record {
      count = c.has_calls_within.ensures.count c.if-not-has_calls_within.false;
      rises = c.is_rising.ensures c.if-not-is_rising.false;
      each = c.has_calls_within.ensures.each c.if-not-has_calls_within.false;
    })
    (c.all_may_stay.ensures yes) c.requires
