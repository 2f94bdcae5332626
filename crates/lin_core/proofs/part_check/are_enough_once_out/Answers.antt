use Rattle.std.proofs.Common.{◌≡◌, ◌⊎◌, ℕ, Bool, true, false, List, subst, sym}
use Rattle.std.specs.Prelude.{slice_index_or}
use Rattle.lin_history.specs.Problems.Lists.{In, IsDistinct}
use Rattle.lin_history.specs.Problems.AnyProblem.{any_problem}
use Rattle.lin_core.specs.Cuts.{AreCut}
use Rattle.lin_core.specs.Laws.{IsOff}
use Rattle.lin_core.specs.Emptied.{HoldsNothing}
use Rattle.lin_core.proofs.EmptiedLemmas.{some_there, once_out_as, before_all, others_go, even_each}
use Rattle.lin_core.proofs.part_check.are_enough_once_out.Goals as goal

pub returns : goal.returns
returns g c = λ yes.
    let cut : AreCut (any_problem c.args.problem.now) c.args.selection.now.event c.as_slice-kept.result.now c.args.part.now.calls = record {
      count = c.has_calls_by.ensures.count c.if-not-has_calls_by.false;
      rises = c.is_rising.ensures c.if-not-is_rising.false;
      each = c.has_calls_by.ensures.each c.if-not-has_calls_by.false;
    } in
    once_out_as (any_problem c.args.problem.now) c.args.selection.now.event c.args.part.now.calls c.as_slice-kept.result.now c.args.selection.now.calls.items c.as_slice-values.result.now c.args.selection.now.values.items c.as_slice-kept.ensures.value c.as_slice-values.ensures.value
    (record {
      starts = subst HoldsNothing c.start.ensures (c.holds_nothing.ensures c.if-not-holds_nothing.false);
      cut = cut;
      stay = c.are_on.ensures c.if-not-are_on.false;
      some = some_there c.as_slice-kept.result.now c.is_empty.result c.if-is_empty.false c.is_empty.ensures;
      earlier = c.as_slice-earlier.result.now;
      distinct = subst IsDistinct (sym c.as_slice-earlier.ensures.value) c.in_ok-others.ensures.distinct;
      before = λ d i h there. before_all c.args.problem.now c.calls-timed.ensures.timed c.args.selection.now.event c.as_slice-kept.result.now c.args.part.now.calls cut d i (c.all_precede.ensures c.if-not-all_precede.false d h) there;
      even = even_each c.args.problem.now.calls c.as_slice-earlier.result.now c.as_slice-values.result.now (c.are_even.ensures yes);
      go = others_go (any_problem c.args.problem.now) c.args.selection.now.event c.as_slice.result.now c.as_slice-kept.result.now c.as_slice-values.result.now c.as_slice-earlier.result.now
          (λ d h. c.in_ok-flags.ensures.set d (subst (λ (l : List Bool). slice_index_or l d false ≡ true) c.as_slice.ensures.value h))
          (λ d x e up. subst (λ (l : List ℕ). (slice_index_or c.as_slice.result.now d false ≡ true) ⊎ (IsOff c.as_slice-values.result.now x ⊎ In d l)) (sym c.as_slice-earlier.ensures.value) (c.in_ok-others.ensures.each d x e up));
    })
