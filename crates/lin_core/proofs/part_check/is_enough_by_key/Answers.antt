use Rattle.std.proofs.Common.{◌≡◌, Bool, true, false, List, subst}
use Rattle.std.specs.Prelude.{slice_index_or}
use Rattle.lin_history.specs.Problems.AnyProblem.{any_problem}
use Rattle.lin_core.proofs.CoreLemmas.{enough_by_key_as}
use Rattle.lin_core.proofs.part_check.is_enough_by_key.Goals as goal

pub others_may_go_by_key-requires : goal.others_may_go_by_key-requires
others_may_go_by_key-requires c = λ d h. c.in_ok-flags.ensures.set d (subst (λ (l : List Bool). slice_index_or l d false ≡ true) c.as_slice.ensures.value h)

pub returns-clause-enough : goal.returns-clause-enough
returns-clause-enough c = λ yes. enough_by_key_as (any_problem c.args.problem.now) c.args.selection.now.event c.args.part.now.calls c.args.key.now c.as_slice-kept.result.now c.args.selection.now.calls.items c.as_slice-values.result.now c.args.selection.now.values.items c.as_slice-kept.ensures.value c.as_slice-values.ensures.value
    (record {
      cut = record {
        count = c.has_calls_by.ensures.count c.if-not-has_calls_by.false;
        rises = c.is_rising.ensures c.if-not-is_rising.false;
        each = c.has_calls_by.ensures.each c.if-not-has_calls_by.false;
      };
      stay = c.are_on_key.ensures c.if-not-are_on_key.false;
      go = c.others_may_go_by_key.ensures yes;
    })
