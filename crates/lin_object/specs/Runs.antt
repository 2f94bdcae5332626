-- Runs of an object: steps, one after another.
use Rattle.std.specs.Prelude.{◌≡◌, ℕ, Option, Some, List, [], ◌∷◌}
use Rattle.lin_object.specs.declared.op.Op.{Op}
use Rattle.lin_object.specs.declared.reply.Reply.{Reply}
use Rattle.lin_object.specs.declared.state.ObjState.{ObjState}

-- What an object does: the next state and the reply to an operation of a process, or none where it has no step.
abbrev pub Behavior : Type 0
Behavior = ObjState → ℕ → Op → Option (ObjState × Reply)

-- A step of a run: by which process, which operation, with which reply.
pub record Step : Type 0 where
  pub process : ℕ
  pub op : Op
  pub reply : Reply

-- The steps, one after another, lead from the first state to the second, each with its reply.
abbrev pub RunsFrom : Behavior → ObjState → List Step → ObjState → Type 0
RunsFrom after s [] t = s ≡ t
RunsFrom after s (step ∷ steps) t =
    (m : ObjState) × (after s step.process step.op ≡ Some (m, step.reply)) × RunsFrom after m steps t
