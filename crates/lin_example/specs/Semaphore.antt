-- A counting semaphore: what each operation does (after Dijkstra's P and V).
use Rattle.std.specs.Prelude.{ℕ, ◌+◌, ◌-◌, nat_lt, Option, Some, None, if◌then◌else◌}
use Rattle.lin_example.specs.declared.semaphore.Semaphore.{Semaphore}
use Rattle.lin_example.specs.declared.semaphore.SemaphoreOp.{SemaphoreOp}
use Rattle.lin_example.specs.declared.semaphore.SemaphoreOp.TheVariants.{Acquire, TryAcquire, Release}
use Rattle.lin_example.specs.declared.semaphore.SemaphoreReply.{SemaphoreReply}
use Rattle.lin_example.specs.declared.semaphore.SemaphoreReply.TheVariants.{Done, Refused}

-- With these permits, of which so many are free: how many are free after the operation, and its reply; none if it has no step.
abbrev pub semaphore_step : ℕ → ℕ → SemaphoreOp → Option (ℕ × SemaphoreReply)
semaphore_step permits free Acquire = if nat_lt 0 free then Some (free - 1, Done) else None
semaphore_step permits free TryAcquire = Some (if nat_lt 0 free then (free - 1, Done) else (free, Refused))
semaphore_step permits free Release = if nat_lt free permits then Some (free + 1, Done) else None

-- The same of a semaphore, whichever process makes the call.
abbrev pub after : Semaphore → ℕ → ℕ → SemaphoreOp → Option (ℕ × SemaphoreReply)
after semaphore free process op = semaphore_step semaphore.permits free op
