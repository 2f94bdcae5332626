use Rattle.std.proofs.Common.{◌≡◌, Bool, true, false, List, inl, inr, subst}
use Rattle.std.specs.Prelude.{slice_index_or}
use Rattle.lin_history.specs.Problems.AnyProblem.{any_problem}
use Rattle.lin_core.proofs.CoreLemmas.{all_as}
use Rattle.lin_core.proofs.part_check.are_all_that_change.Goals as goal

pub others_are_idle-requires : goal.others_are_idle-requires
others_are_idle-requires c = λ d h. c.in_ok-flags.ensures.set d (subst (λ (l : List Bool). slice_index_or l d false ≡ true) c.as_slice.ensures.value h)

pub others_are_idle_since-requires : goal.others_are_idle_since-requires
others_are_idle_since-requires c = λ d h. c.in_ok-flags.ensures.set d (subst (λ (l : List Bool). slice_index_or l d false ≡ true) c.as_slice-2.ensures.value h)

pub returns-then-others_are_idle : goal.returns-then-others_are_idle
returns-then-others_are_idle c = λ yes. all_as (any_problem c.args.problem.now) c.args.selection.now.event c.args.part.now.calls c.as_slice-kept.result.now c.args.selection.now.calls.items c.as_slice-kept.ensures.value
    (inl (record {
      cut = record {
        count = c.has_calls_by.ensures.count c.if-not-has_calls_by.false;
        rises = c.is_rising.ensures c.if-not-is_rising.false;
        each = c.has_calls_by.ensures.each c.if-not-has_calls_by.false;
      };
      stay = λ i x e. tt;
      go = c.others_are_idle.ensures c.if-others_are_idle.true;
    }))

pub returns : goal.returns
returns c = λ yes. all_as (any_problem c.args.problem.now) c.args.selection.now.event c.args.part.now.calls c.as_slice-kept.result.now c.args.selection.now.calls.items c.as_slice-kept.ensures.value
    (inr (record {
      cut = record {
        count = c.has_calls_by.ensures.count c.if-not-has_calls_by.false;
        rises = c.is_rising.ensures c.if-not-is_rising.false;
        each = c.has_calls_by.ensures.each c.if-not-has_calls_by.false;
      };
      stay = λ i x e. tt;
      begins = c.sets_out.ensures c.if-not-sets_out.false;
      later = c.first_precedes.ensures c.if-not-first_precedes.false;
      go = c.others_are_idle_since.ensures yes;
    }))
