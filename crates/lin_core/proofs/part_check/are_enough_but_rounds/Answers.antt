use Rattle.lin_history.specs.Problems.AnyProblem.{any_problem}
use Rattle.lin_core.proofs.CoreLemmas.{enough_as, enough_by_checks, stay_as, flags_as, others_by}
use Rattle.lin_core.proofs.part_check.are_enough_but_rounds.Goals as goal

pub returns : goal.returns
returns g c = λ yes. enough_as (any_problem c.args.problem.now) c.args.selection.now.event c.args.part.now.calls c.as_slice-kept.result.now c.args.selection.now.calls.items c.as_slice-values.result.now c.args.selection.now.values.items c.as_slice-firsts.result.now c.args.selection.now.firsts.items c.as_slice-kept.ensures.value c.as_slice-values.ensures.value c.as_slice-firsts.ensures.value
    (enough_by_checks (any_problem c.args.problem.now) c.args.selection.now.event c.as_slice-kept.result.now c.as_slice-firsts.result.now c.as_slice-lasts.result.now c.args.part.now.calls c.as_slice-values.result.now
    (c.is_rising.ensures c.if-not-is_rising.false)
    (c.has_calls_by.ensures.count c.if-not-has_calls_by.false)
    (c.has_calls_by.ensures.each c.if-not-has_calls_by.false)
    (stay_as (any_problem c.args.problem.now) c.args.selection.now.event c.args.part.now.calls c.as_slice-kept.result.now c.args.selection.now.calls.items c.as_slice-values.result.now c.args.selection.now.values.items c.as_slice-firsts.result.now c.args.selection.now.firsts.items c.as_slice-lasts.result.now c.args.selection.now.lasts.items c.as_slice-kept.ensures.value c.as_slice-values.ensures.value c.as_slice-firsts.ensures.value c.as_slice-lasts.ensures.value
    (c.may_all_stay.ensures c.if-not-may_all_stay.false))
    (c.in_ok-are_rounds.ensures.count c.if-not-branch.false)
    (c.in_ok-are_rounds.ensures.each c.if-not-branch.false)
    (others_by (any_problem c.args.problem.now) c.args.selection.now.event c.as_slice-values.result.now c.in_ok-standing.standing.kept.items c.in_ok-standing.standing.firsts.items c.in_ok-standing.standing.lasts.items c.as_slice-kept.result.now c.as_slice-firsts.result.now c.as_slice-lasts.result.now
    (flags_as c.in_ok-standing.standing.kept.items c.as_slice-kept.result.now c.args.selection.now.calls.items c.as_slice-kept.ensures.value c.in_ok-standing.ensures.kept)
    (flags_as c.in_ok-standing.standing.firsts.items c.as_slice-firsts.result.now c.args.selection.now.firsts.items c.as_slice-firsts.ensures.value c.in_ok-standing.ensures.firsts)
    (flags_as c.in_ok-standing.standing.lasts.items c.as_slice-lasts.result.now c.args.selection.now.lasts.items c.as_slice-lasts.ensures.value c.in_ok-standing.ensures.lasts)
    (c.others_may_go.ensures yes)))
