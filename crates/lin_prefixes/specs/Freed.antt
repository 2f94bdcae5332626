-- Dequeues or pops that may stay out of a run, and with them the calls that put in what they took (this project's own).
use Rattle.std.specs.Prelude.{◌≡◌, ◌⊎◌, ℕ, ℤ, Some, List, [], slice_get}
use Rattle.lin_object.specs.declared.op.Op.{Op}
use Rattle.lin_object.specs.declared.op.Op.TheVariants.{Dequeue, Pop}
use Rattle.lin_object.specs.declared.reply.Reply.{Reply}
use Rattle.lin_object.specs.declared.state.ObjState.{ObjState}
use Rattle.lin_object.specs.declared.state.ObjState.TheVariants.{Queue, Stack}
use Rattle.lin_history.specs.declared.problems.problem.ProblemCall.{ProblemCall}
use Rattle.lin_history.specs.Problems.Lists.{In}
use Rattle.lin_history.specs.Problems.Problem.{Problem}
use Rattle.lin_laws.specs.Items.{Took, Popped, AddsItem}

-- The call has this operation, and returned.
abbrev pub HasReturned : Problem ObjState Op Reply → Op → ℕ → Type 0
HasReturned p op g = (x : ProblemCall Op Reply) × (slice_get p.calls g ≡ Some x) × (x.op ≡ op) × ((q : ℕ × Reply) × (x.returned ≡ Some q))

-- No calls; or, of a queue that starts empty, dequeues that returned; or, of a stack that starts empty, pops that returned.
abbrev pub AreTakers : Problem ObjState Op Reply → List ℕ → Type 0
AreTakers p takers = (takers ≡ [])
    ⊎ (((p.start ≡ Queue []) × ((g : ℕ) → In g takers → HasReturned p Dequeue g))
    ⊎ ((p.start ≡ Stack []) × ((g : ℕ) → In g takers → HasReturned p Pop g)))

-- The call returned with this item.
abbrev pub TookOut : Problem ObjState Op Reply → ℕ → ℤ → Type 0
TookOut p g w = Took p g w ⊎ Popped p g w

-- The call is one of the calls that take, or puts in what one of them returned with.
abbrev pub IsFreed : Problem ObjState Op Reply → List ℕ → ℕ → Type 0
IsFreed p takers c = In c takers ⊎ ((g : ℕ) × (w : ℤ) × In g takers × TookOut p g w × AddsItem p c w)
