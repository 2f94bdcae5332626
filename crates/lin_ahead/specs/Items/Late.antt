-- Pushes that are too late on a stack, and enqueues on a queue, by rows of numbers of the calls (this project's own). What is said of a
-- push and of pops is meant of an enqueue and of dequeues, too.
use Rattle.std.specs.Prelude.{◌≡◌, ℕ, ◌<◌, Bool, true, false, Some, List, [], ◌∷◌, ◌++◌, ◌⊎◌, slice_get}
use Rattle.lin_object.specs.declared.op.Op.{Op}
use Rattle.lin_object.specs.declared.reply.Reply.{Reply}
use Rattle.lin_object.specs.declared.state.ObjState.{ObjState}
use Rattle.lin_history.specs.declared.problems.problem.ProblemCall.{ProblemCall}
use Rattle.lin_history.specs.Problems.Problem.{Problem}
use Rattle.lin_history.specs.Problems.Lists.{In}
use Rattle.lin_history.specs.Problems.Precedence.{Before}
use Rattle.lin_history.specs.Problems.Continuations.{has}
use Rattle.lin_history.specs.Problems.Linearizations.{IsLinearization}
use Rattle.lin_ahead.specs.declared.items.late_pushes.LateRows.{LateRows}
use Rattle.lin_ahead.specs.Items.Numbers.{ReturnsAt}

-- The call, which is outside the set, returned at this event.
abbrev pub ReturnsOutside : {State Op Reply : Type 0} → Problem State Op Reply → List Bool → ℕ → ℕ → Type 0
ReturnsOutside {State} {Op} {Reply} p set c m = (has set c ≡ false) × ((x : ProblemCall Op Reply) × (slice_get p.calls c ≡ Some x) × ((r : Reply) × (x.returned ≡ Some (m, r))))

-- The call that pops the item of this push was called after the event.
abbrev pub IsPoppedAfter : LateRows → ℕ → ℕ → Type 0
IsPoppedAfter late c m = (n : ℕ) × (slice_get late.from.items c ≡ Some n) × (m < n)

-- A chain of pushes that must lie above push b, or of enqueues whose items must be out before the same call, the last of them first: it was returned from before the call was called that pops
-- the item of the one before, and the call that pops its own item was called after the event.
abbrev pub LeadsBeyond : {State Op Reply : Type 0} → Problem State Op Reply → LateRows → List Bool → ℕ → List ℕ → ℕ → Type 0
LeadsBeyond p late set b [] m = IsPoppedAfter late b m
LeadsBeyond p late set b (d ∷ ds) m = IsPoppedAfter late d m × ((k : ℕ) × ReturnsOutside p set d k × LeadsBeyond p late set b ds k)

-- Some chain leads to each event before this one.
abbrev pub IsHeldTo : {State Op Reply : Type 0} → Problem State Op Reply → LateRows → List Bool → ℕ → ℕ → Type 0
IsHeldTo p late set b n = (m : ℕ) → m < n → (chain : List ℕ) × LeadsBeyond p late set b chain m

-- Push d returned before the event up to which a push is held, and the call that pops its item was called at this one or later.
abbrev pub Grows : {State Op Reply : Type 0} → Problem State Op Reply → LateRows → List Bool → ℕ → ℕ → ℕ → Type 0
Grows p late set held d n = (slice_get late.from.items d ≡ Some n) × ((k : ℕ) × ReturnsOutside p set d k × (k < held))

-- The item of a push b made next is popped before a call that returned at this event, or by it: it is outside the set, and found
-- the stack empty, or popped the item of a push that is b or in the set, and of no other.
abbrev pub IsDeadline : {State Op Reply : Type 0} → Problem State Op Reply → LateRows → List Bool → ℕ → ℕ → Type 0
IsDeadline p late set b m = (z : ℕ) × ReturnsOutside p set z m × ((slice_get late.found_empty.items z ≡ Some true) ⊎ ((a : ℕ) × (slice_get late.poppers.items a ≡ Some (Some z)) × ((a ≡ b) ⊎ (has set a ≡ true))))

-- A chain leads beyond the push's deadline.
abbrev pub IsLate : {State Op Reply : Type 0} → Problem State Op Reply → LateRows → List Bool → ℕ → Type 0
IsLate p late set b = (m : ℕ) × IsDeadline p late set b m × ((chain : List ℕ) × LeadsBeyond p late set b chain m)

-- No call of a linearization is late, where the set is that of the calls before it.
abbrev pub NoneIsLate : {State Op Reply : Type 0} → Problem State Op Reply → LateRows → Type 0
NoneIsLate p late = (l early rest : List ℕ) (b : ℕ) (set : List Bool) → IsLinearization p l → l ≡ early ++ b ∷ rest → ((c : ℕ) → (has set c ≡ true → In c early) × (In c early → has set c ≡ true)) → IsLate p late set b → ⊥

-- Call z found the stack empty, or popped the item of a push that returned before push b was called.
abbrev pub FindsUnder : {State Op Reply : Type 0} → Problem State Op Reply → LateRows → ℕ → ℕ → Type 0
FindsUnder p late b z = (slice_get late.found_empty.items z ≡ Some true) ⊎ ((a : ℕ) × (slice_get late.poppers.items a ≡ Some (Some z)) × Before p a b)

-- Push b returned before a call was called that found what is under its item, and the item was popped by a call that was called
-- after that one returned.
abbrev pub IsCrossed : Problem ObjState Op Reply → LateRows → ℕ → Type 0
IsCrossed p late b = (z : ℕ) × (m : ℕ) × Before p b z × ReturnsAt p z m × IsPoppedAfter late b m × FindsUnder p late b z
