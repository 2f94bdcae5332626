use Rattle.std.proofs.Common.{◌≡◌, Bool, false, true, List, sym, ◌∙◌, subst}
use Rattle.std.specs.Prelude.{filter, not, slice_index_or}
use Rattle.lin_history.specs.Problems.Lists.{In}
use Rattle.lin_prefixes.proofs.repeated_calls.twins_of.Goals as goal

pub returns : goal.returns
returns g c = record {
  test = λ x. slice_index_or c.as_slice-2.result.now x false;
  again = c.in_ok-flagged.ensures;
  others = subst (λ (f : List Bool). c.in_ok-unflagged.field-0.items ≡ filter (λ x. not (slice_index_or f x false)) c.args.calls.now) (c.as_slice-3.ensures.value ∙ sym c.as_slice-2.ensures.value) c.in_ok-unflagged.ensures;
  each = λ k x e. c.in_ok-repeated.ensures x (subst (In x) c.as_slice.ensures.value (c.in_ok-flags.ensures.set x (subst (λ (f : List Bool). slice_index_or f x false ≡ true) c.as_slice-2.ensures.value e))) k;
}
