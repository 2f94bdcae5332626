use Rattle.std.proofs.Common.{sym, ◌∙◌}
use Rattle.lin_object.specs.StepLemmas.{state_same}
use Rattle.lin_parts.proofs.part.same_state.Goals as goal

pub returns : goal.returns
returns c = λ yes. state_same c.args.a.now c.args.b.now (sym c.eq.ensures ∙ yes)
