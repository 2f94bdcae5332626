-- What recorded events make of the calls on a semaphore (Herlihy and Wing 1990).
use Rattle.std.specs.Prelude.{◌≡◌, ℕ, ◌==◌, ◌&&◌, Bool, is_none, position, codes, List, [], ◌∷◌, Option, Some, None, IsSome}
use Rattle.lin_history.specs.declared.problems.problem.ProblemCall.{ProblemCall}
use Rattle.lin_history.specs.Problems.ProblemParts.{ProblemParts, with_new_call, with_new_return}
use Rattle.lin_example.specs.declared.semaphore.Semaphore.{Semaphore}
use Rattle.lin_example.specs.declared.semaphore.SemaphoreOp.{SemaphoreOp}
use Rattle.lin_example.specs.declared.semaphore.SemaphoreOp.TheVariants.{Acquire, TryAcquire, Release}
use Rattle.lin_example.specs.declared.semaphore.SemaphoreReply.{SemaphoreReply}
use Rattle.lin_example.specs.declared.semaphore.SemaphoreReply.TheVariants as replies
use Rattle.lin_example.specs.declared.recording.Event.{Event}
use Rattle.lin_example.specs.declared.recording.Event.TheVariants.{Call, Return}
use Rattle.lin_example.specs.declared.recording.EventFault.{EventFault}
use Rattle.lin_example.specs.declared.recording.EventFault.TheVariants.{Busy, NoCall, Refused}

-- The operations and the replies by their names.
abbrev pub op_names : List (List ℕ × SemaphoreOp)
op_names = (codes "acquire", Acquire) ∷ (codes "try_acquire", TryAcquire) ∷ (codes "release", Release) ∷ []

abbrev pub reply_names : List (List ℕ × SemaphoreReply)
reply_names = (codes "done", replies.Done) ∷ (codes "refused", replies.Refused) ∷ []

-- The calls on a semaphore, and the semaphore.
abbrev pub Calls : Type 0
Calls = List (ProblemCall SemaphoreOp SemaphoreReply)

abbrev pub Recorded : Type 0
Recorded = ProblemParts Semaphore ℕ SemaphoreOp SemaphoreReply

-- The number of the pending call of a process.
abbrev pub is_pending_of : ℕ → ProblemCall SemaphoreOp SemaphoreReply → Bool
is_pending_of process call = (call.process == process) && is_none call.returned

abbrev pub pending_call : ℕ → Calls → Option ℕ
pending_call process calls = position (is_pending_of process) calls

-- A process calls if it has no pending call, and returns if it has one.
abbrev pub MayComeNext : Calls → Event → Type 0
MayComeNext calls (Call process op) = pending_call process calls ≡ None
MayComeNext calls (Return process reply) = IsSome (pending_call process calls)

-- Why an event is refused: the process is busy, or has no call; or the problem refuses an event that may come next.
abbrev pub IsFaultOf : Calls → Event → EventFault → Type 0
IsFaultOf calls (Call process op) Busy = IsSome (pending_call process calls)
IsFaultOf calls (Call process op) NoCall = ⊥
IsFaultOf calls (Call process op) Refused = MayComeNext calls (Call process op)
IsFaultOf calls (Return process reply) Busy = ⊥
IsFaultOf calls (Return process reply) NoCall = pending_call process calls ≡ None
IsFaultOf calls (Return process reply) Refused = MayComeNext calls (Return process reply)

-- With the return of this call.
abbrev pub with_return : Recorded → Option ℕ → SemaphoreReply → ℕ → Recorded
with_return p None reply number = p
with_return p (Some call) reply number = with_new_return p call reply number

-- With one event more.
abbrev pub with_event : Recorded → Event → ℕ → Recorded
with_event p (Call process op) number = with_new_call p process op number
with_event p (Return process reply) number = with_return p (pending_call process p.calls) reply number
