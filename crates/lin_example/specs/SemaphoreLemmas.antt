-- Equal semaphores step alike: what is equal by the tests is the same.
use Rattle.std.specs.Prelude.{◌≡◌, ℕ, ◌==◌, true, Option, Some, None, refl}
use Rattle.std.proofs.Common.{sym, eqb-true, eq-eqb, true≢false}
use Rattle.lin_object.specs.StepAnswers.{SameStep}
use Rattle.lin_example.specs.declared.semaphore.Semaphore.{Semaphore}
use Rattle.lin_example.specs.declared.semaphore.SemaphoreOp.{SemaphoreOp}
use Rattle.lin_example.specs.declared.semaphore.SemaphoreOp.TheVariants.{Acquire, TryAcquire, Release}
use Rattle.lin_example.specs.declared.semaphore.SemaphoreReply.{SemaphoreReply}
use Rattle.lin_example.specs.declared.semaphore.SemaphoreReply.TheVariants.{Done, Refused}
use Rattle.lin_example.specs.contracts.semaphore.SemaphorePartialEq.TheImpl.{eq-value as semaphore_eq}
use Rattle.lin_example.specs.contracts.semaphore.SemaphoreOpPartialEq.TheImpl.{eq-value as op_eq}
use Rattle.lin_example.specs.contracts.semaphore.SemaphoreReplyPartialEq.TheImpl.{eq-value as reply_eq}
use Rattle.lin_example.specs.Semaphore.{semaphore_step}

permits_same : (x y : Semaphore) → semaphore_eq.it x y ≡ true → x.permits ≡ y.permits
permits_same x y e = eqb-true x.permits y.permits e

op_same : (a b : SemaphoreOp) → op_eq.it a b ≡ true → a ≡ b
op_same Acquire Acquire e = refl
op_same TryAcquire TryAcquire e = refl
op_same Release Release e = refl
op_same a b e = absurd (true≢false (sym e))

reply_itself : (r : SemaphoreReply) → reply_eq.it r r ≡ true
reply_itself Done = refl
reply_itself Refused = refl

-- The answer of a step is like itself.
itself : (answer : Option (ℕ × SemaphoreReply)) → SameStep ◌==◌ reply_eq.it answer answer
itself None = tt
itself (Some answer) = (eq-eqb answer.0 answer.0 refl, reply_itself answer.1)

pub alike : (x y : Semaphore) (s t : ℕ) (a b : SemaphoreOp) →
    semaphore_eq.it x y ≡ true → s == t ≡ true → op_eq.it a b ≡ true →
    SameStep ◌==◌ reply_eq.it (semaphore_step x.permits s a) (semaphore_step y.permits t b)
alike x y s t a b same_object same_state same_op =
    rw (permits_same x y same_object) (rw (eqb-true s t same_state) (rw (op_same a b same_op) (itself (semaphore_step y.permits t b))))
