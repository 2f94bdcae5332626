-- What calls on a queue or a stack do to items (this project's own).
use Rattle.std.specs.Prelude.{◌≡◌, ℕ, ℤ, Some, ◌⊎◌, slice_get}
use Rattle.lin_object.specs.declared.op.Op.{Op}
use Rattle.lin_object.specs.declared.op.Op.TheVariants.{Enqueue, Dequeue, Push, Pop}
use Rattle.lin_object.specs.declared.reply.Reply.{Reply}
use Rattle.lin_object.specs.declared.reply.Reply.TheVariants.{Int}
use Rattle.lin_object.specs.declared.state.ObjState.{ObjState}
use Rattle.lin_history.specs.declared.problems.problem.ProblemCall.{ProblemCall}
use Rattle.lin_history.specs.Problems.Problem.{Problem}

module _ (p : Problem ObjState Op Reply) where
  -- The call puts this item into a queue.
  abbrev pub Puts : ℕ → ℤ → Type 0
  Puts c v = (x : ProblemCall Op Reply) × (slice_get p.calls c ≡ Some x) × (x.op ≡ Enqueue v)

  -- The call took this item out of a queue.
  abbrev pub Took : ℕ → ℤ → Type 0
  Took c v = (x : ProblemCall Op Reply) × (slice_get p.calls c ≡ Some x) × (x.op ≡ Dequeue) × ((n : ℕ) × (x.returned ≡ Some (n, Int v)))

  -- The call pushes this item.
  abbrev pub Pushes : ℕ → ℤ → Type 0
  Pushes c v = (x : ProblemCall Op Reply) × (slice_get p.calls c ≡ Some x) × (x.op ≡ Push v)

  -- The call popped this item.
  abbrev pub Popped : ℕ → ℤ → Type 0
  Popped c v = (x : ProblemCall Op Reply) × (slice_get p.calls c ≡ Some x) × (x.op ≡ Pop) × ((n : ℕ) × (x.returned ≡ Some (n, Int v)))

  -- The call puts the item into a queue, or pushes it.
  abbrev pub AddsItem : ℕ → ℤ → Type 0
  AddsItem c v = Puts c v ⊎ Pushes c v
