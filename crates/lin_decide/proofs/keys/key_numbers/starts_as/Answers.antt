use Rattle.std.proofs.Common.{sym, ap, ◌∙◌}
use Rattle.lin_object.specs.declared.state.ObjState.{ObjState}
use Rattle.lin_object.specs.contracts.state.ObjStatePartialEq.TheImpl.{eq-value as state_eq}
use Rattle.lin_object.specs.StepLemmas.{state_same, state_refl}
use Rattle.lin_decide.proofs.keys.key_numbers.starts_as.Goals as goal

pub returns : goal.returns
returns c = (
  λ told. state_same _ _ (sym c.eq.ensures ∙ told) ∙ c.start_state.ensures,
  λ is. c.eq.ensures ∙ ap (λ (s : ObjState). state_eq.it s c.start_state.result) (is ∙ sym c.start_state.ensures) ∙ state_refl c.start_state.result,
)
