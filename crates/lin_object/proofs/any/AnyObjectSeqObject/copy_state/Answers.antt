use Rattle.std.proofs.Common.{◌≡◌, ◌∙◌, ap, true, Result, Ok, Err}
use Rattle.std.specs.Prelude.{IfOk}
use Rattle.lin_object.specs.declared.state.ObjState.{ObjState}
use Rattle.lin_object.specs.contracts.state.ObjStatePartialEq.TheImpl.{eq-value as state_eq}
use Rattle.lin_object.specs.StepLemmas.{state_refl}
use Rattle.lin_object.proofs.any.AnyObjectSeqObject.copy_state.Goals as goal

-- What is the same state is equal to it.
equal_where_same : {E : Type 0} (copied : Result ObjState E) (state : ObjState) → IfOk copied (λ copy. copy ≡ state) → IfOk copied (λ copy. state_eq.it copy state ≡ true)
equal_where_same (Ok copy) state same = ap (λ s. state_eq.it s state) same ∙ state_refl state
equal_where_same (Err fault) state same = same

pub returns-clause-copy : goal.returns-clause-copy
returns-clause-copy c = equal_where_same _ _ c.copied.ensures.copy
