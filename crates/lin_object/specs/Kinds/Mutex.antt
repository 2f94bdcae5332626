-- Mutexes: their operations, what each does, and the law of their runs (this project's own).
use Rattle.std.specs.Prelude.{◌≡◌, ℕ, ◌==◌, Bool, true, false, is_none, List, [], ◌∷◌, codes, Option, Some, None, if◌then◌else◌}
use Rattle.lin_object.specs.declared.op.Op.{Op}
use Rattle.lin_object.specs.declared.op.Op.TheVariants.{Lock, Unlock, TryLock}
use Rattle.lin_object.specs.declared.reply.Reply.{Reply}
use Rattle.lin_object.specs.declared.reply.Reply.TheVariants.{Okay, Flag}
use Rattle.lin_object.specs.declared.state.ObjState.{ObjState}
use Rattle.lin_object.specs.declared.state.ObjState.TheVariants.{Mutex}
use Rattle.lin_object.specs.Names.{OpMaker, of_none}
use Rattle.lin_object.specs.Runs.{Behavior, Step, RunsFrom}
use Rattle.lin_object.specs.StepAnswers.{step_reply}

-- lock(), unlock(), try_lock().
abbrev pub mutex_operations : List (List ℕ × OpMaker)
mutex_operations =
    (codes "lock", of_none Lock)
    ∷ (codes "unlock", of_none Unlock)
    ∷ (codes "try_lock", of_none TryLock)
    ∷ []

-- Free, or held by a process: lock() has a step where it is free, unlock() where the same process holds it, and
-- try_lock() says whether it was free.
abbrev pub mutex_step : Option ℕ → ℕ → Op → Option (ObjState × Reply)
mutex_step None process Lock = Some (Mutex (Some process), Okay)
mutex_step (Some holder) process Lock = None
mutex_step None process Unlock = None
mutex_step (Some holder) process Unlock = if holder == process then Some (Mutex None, Okay) else None
mutex_step None process TryLock = Some (Mutex (Some process), Flag true)
mutex_step (Some holder) process TryLock = Some (Mutex (Some holder), Flag false)
mutex_step holder process op = None

-- ---- the law, in words that know nothing of the table

-- Whether a step gives a mutex to its process.
abbrev pub is_acquiring : Op → Reply → Bool
is_acquiring Lock Okay = true
is_acquiring TryLock (Flag true) = true
is_acquiring op reply = false

-- No step is an unlock by the process.
abbrev pub HasNoUnlockBy : ℕ → List Step → Type 0
HasNoUnlockBy p [] = Unit {0}
HasNoUnlockBy p (step ∷ steps) = (step.op ≡ Unlock → step.process ≡ p → ⊥) × HasNoUnlockBy p steps

-- No step gives the mutex to a process.
abbrev pub HasNoAcquiring : List Step → Type 0
HasNoAcquiring [] = Unit {0}
HasNoAcquiring (step ∷ steps) = (is_acquiring step.op step.reply ≡ false) × HasNoAcquiring steps

-- Whether the process holds a mutex that has this holder.
abbrev pub is_holder : ℕ → Option ℕ → Bool
is_holder p None = false
is_holder p (Some q) = q == p

-- What every run of a mutex keeps, and what each step of it replies.
pub record MutexLaw (after : Behavior) : Type 0 where
  -- at most one process holds it: while one holds it and does not unlock it, none is given it
  pub alone :
      (p : ℕ) (run : List Step) (t : ObjState) →
      RunsFrom after (Mutex (Some p)) run t → HasNoUnlockBy p run →
      (t ≡ Mutex (Some p)) × HasNoAcquiring run
  -- a lock can be made exactly where it is free
  pub locks :
      (holder : Option ℕ) (p : ℕ) →
      step_reply (after (Mutex holder) p Lock) ≡ (if is_none holder then Some Okay else None)
  -- a try_lock can always be made, and answers whether it was free
  pub tries :
      (holder : Option ℕ) (p : ℕ) →
      step_reply (after (Mutex holder) p TryLock) ≡ Some (Flag (is_none holder))
  -- an unlock can be made exactly where the same process holds it
  pub unlocks :
      (holder : Option ℕ) (p : ℕ) →
      step_reply (after (Mutex holder) p Unlock) ≡ (if is_holder p holder then Some Okay else None)
  -- a step that gives it to a process leaves the process its holder
  pub takes :
      (holder : Option ℕ) (t : ObjState) (p : ℕ) (op : Op) (reply : Reply) →
      after (Mutex holder) p op ≡ Some (t, reply) → is_acquiring op reply ≡ true →
      t ≡ Mutex (Some p)
  -- and an unlock leaves it free
  pub frees :
      (holder : Option ℕ) (t : ObjState) (p : ℕ) (reply : Reply) →
      after (Mutex holder) p Unlock ≡ Some (t, reply) → t ≡ Mutex None
