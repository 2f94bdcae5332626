-- What takes a step back (this project's own).
use Rattle.lin_object.specs.declared.step_back.Change.{Change}
use Rattle.lin_object.specs.declared.step_back.StepBack.{StepBack}
use Rattle.lin_object.specs.declared.step_back.StepBack.TheVariants.{Before, Changed}

-- The state before the step that led to this one, where a function says what it was before a change.
abbrev pub state_before : {State : Type 0} → (Change → State → State) → StepBack State → State → State
state_before undone (Before before) t = before
state_before undone (Changed change) t = undone change t
