-- What the calls of a stack's problem do to items (this project's own).
use Rattle.std.specs.Prelude.{◌≡◌, ℕ, ℤ, Some, slice_get}
use Rattle.lin_object.specs.declared.op.Op.{Op}
use Rattle.lin_object.specs.declared.op.Op.TheVariants.{Pop}
use Rattle.lin_object.specs.declared.reply.Reply.{Reply}
use Rattle.lin_object.specs.declared.reply.Reply.TheVariants.{Empty}
use Rattle.lin_object.specs.declared.state.ObjState.{ObjState}
use Rattle.lin_history.specs.declared.problems.problem.ProblemCall.{ProblemCall}
use Rattle.lin_history.specs.Problems.Problem.{Problem}
use Rattle.lin_laws.specs.Items.{Pushes}

module _ (p : Problem ObjState Op Reply) where
  -- No two calls push the item.
  abbrev pub PushedOnce : ℤ → Type 0
  PushedOnce v = (a b : ℕ) → Pushes p a v → Pushes p b v → a ≡ b

  -- No other call pushes this item.
  abbrev pub OnlyPushes : ℕ → ℤ → Type 0
  OnlyPushes c v = (d : ℕ) → Pushes p d v → d ≡ c

  -- The call returned as it found the stack empty.
  abbrev pub FoundEmpty : ℕ → Type 0
  FoundEmpty c = (x : ProblemCall Op Reply) × (slice_get p.calls c ≡ Some x) × (x.op ≡ Pop) × ((n : ℕ) × (x.returned ≡ Some (n, Empty)))
