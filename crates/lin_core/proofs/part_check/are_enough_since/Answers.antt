use Rattle.std.proofs.Common.{◌≡◌, Bool, true, false, List, subst}
use Rattle.std.specs.Prelude.{slice_index_or}
use Rattle.lin_history.specs.Problems.AnyProblem.{any_problem}
use Rattle.lin_core.proofs.CoreLemmas.{since_as}
use Rattle.lin_core.proofs.part_check.are_enough_since.Goals as goal

pub others_may_go_since-requires : goal.others_may_go_since-requires
others_may_go_since-requires g c = λ d h. c.in_ok-flags.ensures.set d (subst (λ (l : List Bool). slice_index_or l d false ≡ true) c.as_slice.ensures.value h)

pub returns : goal.returns
returns g c = λ yes. since_as (any_problem c.args.problem.now) c.args.selection.now.event c.args.part.now.calls c.as_slice-kept.result.now c.args.selection.now.calls.items c.as_slice-values.result.now c.args.selection.now.values.items c.as_slice-kept.ensures.value c.as_slice-values.ensures.value
    (record {
      cut = record {
        count = c.has_calls_by.ensures.count c.if-not-has_calls_by.false;
        rises = c.is_rising.ensures c.if-not-is_rising.false;
        each = c.has_calls_by.ensures.each c.if-not-has_calls_by.false;
      };
      stay = c.are_on.ensures c.if-not-are_on.false;
      begins = c.begins.ensures c.if-not-begins.false;
      later = c.first_precedes.ensures c.if-not-first_precedes.false;
      go = c.others_may_go_since.ensures yes;
    })
