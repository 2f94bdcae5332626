use Rattle.std.proofs.Common.{◌≡◌, Bool, true, false, ℕ, ℤ, List, Some, sym, subst, ◌∙◌, ap}
use Rattle.std.specs.Prelude.{slice_get, slice_index_or}
use Rattle.lin_object.specs.declared.state.ObjState.{ObjState}
use Rattle.lin_core.specs.Emptied.{HoldsNothing}
use Rattle.lin_history.specs.Problems.AnyProblem.{any_problem}
use Rattle.lin_core.proofs.OneItemLemmas.{of_item_as}
use Rattle.lin_core.proofs.part_check.are_enough_of_item.Goals as goal

pub others_put_none-requires : goal.others_put_none-requires
others_put_none-requires g c = λ d h. c.in_ok-flags.ensures.set d (subst (λ (l : List Bool). slice_index_or l d false ≡ true) c.as_slice-2.ensures.value h)

pub returns : goal.returns
returns g c = λ yes. of_item_as (any_problem c.args.problem.now) c.args.selection.now.event c.args.part.now.calls c.as_slice-kept.result.now c.args.selection.now.calls.items c.as_slice.result.now c.args.selection.now.values.items c.as_slice-kept.ensures.value c.as_slice.ensures.value
    (record {
      starts = subst (λ (s : ObjState). HoldsNothing s) c.start.ensures (c.holds_nothing.ensures c.if-not-holds_nothing.false);
      item = c.in-Some.item.now;
      first = sym c.in-Some.ensures.value;
      enough = record {
        cut = record {
          count = c.has_calls_by.ensures.count c.if-not-has_calls_by.false;
          rises = c.is_rising.ensures c.if-not-is_rising.false;
          each = c.has_calls_by.ensures.each c.if-not-has_calls_by.false;
        };
        stay = c.are_of_item.ensures c.if-not-are_of_item.false;
        go = c.others_put_none.ensures yes;
      };
    })
