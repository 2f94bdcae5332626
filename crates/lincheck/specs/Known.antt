-- What is known of an object while it is checked (this project's own).
use Rattle.std.specs.Prelude.{◌≡◌, ℕ, IsTrue, List, Some, true}
use Rattle.lin_object.specs.declared.op.Op.{Op}
use Rattle.lin_object.specs.declared.reply.Reply.{Reply}
use Rattle.lin_object.specs.declared.state.ObjState.{ObjState}
use Rattle.lin_history.specs.Problems.Problem.{Problem}
use Rattle.lin_history.specs.Problems.Linearizations.{IsLinearization}
use Rattle.lin_decide.specs.Begun.{IsBegunOf}
use Rattle.lincheck.specs.ObjectAnswer.{HasNoOrder}
use Rattle.lincheck.specs.ObjectFaults.{IsFaultOf}
use Rattle.lincheck.specs.declared.known.Known.{Known}
use Rattle.lincheck.specs.declared.known.Sought.{Sought}
use Rattle.lincheck.specs.declared.known.Sought.TheVariants.{NotYet, InVain, Found}

-- A fault that was found is one of the object.
abbrev pub IsSoughtOf : Problem ObjState Op Reply → Sought → Type 0
IsSoughtOf p NotYet = Unit {0}
IsSoughtOf p InVain = Unit {0}
IsSoughtOf p (Found fault) = IsFaultOf p fault

-- Where it is known that there is no linearization, there is none; where one showed, there is one; a fault that was found is one; and
-- what searches found out of its configurations is right.
pub record IsKnownOf (p : Problem ObjState Op Reply) (known : Known) : Type 0 where
  pub refuted : IsTrue known.is_refuted → HasNoOrder p
  pub order : known.has_order ≡ Some true → (l : List ℕ) × IsLinearization p l
  pub fault : IsSoughtOf p known.fault
  pub begun : IsBegunOf p known.begun
