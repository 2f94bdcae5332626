-- The table of mutexes keeps the law of their runs.
use Rattle.std.proofs.Common.{◌≡◌, ℕ, ◌==◌, Bool, true, false, Option, Some, None, List, [], ◌∷◌, refl, sym, subst, eqb-true, if◌then◌else◌}
use Rattle.std.specs.Prelude.{is_none}
use Rattle.lin_object.specs.declared.op.Op.{Op}
use Rattle.lin_object.specs.declared.op.Op.TheVariants.{Lock, Unlock, TryLock}
use Rattle.lin_object.specs.declared.reply.Reply.{Reply}
use Rattle.lin_object.specs.declared.reply.Reply.TheVariants.{Okay, Flag}
use Rattle.lin_object.specs.declared.state.ObjState.{ObjState}
use Rattle.lin_object.specs.declared.state.ObjState.TheVariants.{Mutex}
use Rattle.lin_object.specs.Runs.{Step, RunsFrom}
use Rattle.lin_object.specs.StepAnswers.{step_reply}
use Rattle.lin_object.specs.Kinds.{after}
use Rattle.lin_object.specs.Kinds.Mutex.{mutex_step, is_acquiring, HasNoUnlockBy, HasNoAcquiring, is_holder, MutexLaw}
use Rattle.lin_object.proofs.BoolLemmas.{not_both}
use Rattle.lin_object.proofs.AnswerLemmas.{Gives, no_step, state_given, reply_given}

-- what one step leaves of a mutex that the process holds
abbrev MutexStep : ℕ → Op → ObjState → Reply → Type 0
MutexStep p op m r = (m ≡ Mutex (Some p)) × (is_acquiring op r ≡ false)

unlock_leaves : (b : Bool) (p q : ℕ) (m : ObjState) (r : Reply) → (p == q) ≡ b → Gives (if b then Some (Mutex None, Okay) else None) m r → (q ≡ p → ⊥) → MutexStep p Unlock m r
unlock_leaves true p q m r same e other = absurd (other (sym (eqb-true p q same)))
unlock_leaves false p q m r same e other = absurd (cc)

mutex_leaves : (p q : ℕ) (op : Op) (m : ObjState) (r : Reply) → Gives (mutex_step (Some p) q op) m r → (op ≡ Unlock → q ≡ p → ⊥) → MutexStep p op m r
mutex_leaves p q Unlock m r e other = unlock_leaves (p == q) p q m r refl e (other refl)
mutex_leaves p q TryLock m r e other = (sym (state_given e), rw (← reply_given e) refl)
mutex_leaves p q op m r e other = absurd (no_step e)

mutex_runs : (p : ℕ) (run : List Step) (t : ObjState) → RunsFrom after (Mutex (Some p)) run t → HasNoUnlockBy p run → (t ≡ Mutex (Some p)) × HasNoAcquiring run
mutex_runs p [] t e none = (sym e, tt)
mutex_runs p (step ∷ steps) t (m, e, rest) (other, others) =
    let one : MutexStep p step.op m step.reply = mutex_leaves p step.process step.op m step.reply e other in
    let later = mutex_runs p steps t (subst (λ (s : ObjState). RunsFrom after s steps t) one.0 rest) others in
    (later.0, (one.1, later.1))

-- what each step replies

lock_answers : (holder : Option ℕ) (p : ℕ) → step_reply (mutex_step holder p Lock) ≡ (if is_none holder then Some Okay else None)
lock_answers None p = refl
lock_answers (Some q) p = refl

try_answers : (holder : Option ℕ) (p : ℕ) → step_reply (mutex_step holder p TryLock) ≡ Some (Flag (is_none holder))
try_answers None p = refl
try_answers (Some q) p = refl

freeing_answers : (own : Bool) → step_reply {S = ObjState} {R = Reply} (if own then Some (Mutex None, Okay) else None) ≡ (if own then Some Okay else None)
freeing_answers true = refl
freeing_answers false = refl

unlock_answers : (holder : Option ℕ) (p : ℕ) → step_reply (mutex_step holder p Unlock) ≡ (if is_holder p holder then Some Okay else None)
unlock_answers None p = refl
unlock_answers (Some q) p = freeing_answers (q == p)

-- what is left by a step that gives the mutex to a process, and by one that frees it

freeing_frees : (own : Bool) (t : ObjState) (reply : Reply) → Gives (if own then Some (Mutex None, Okay) else None) t reply → t ≡ Mutex None
freeing_frees true t reply e = sym (state_given e)
freeing_frees false t reply e = absurd (no_step e)

unlock_frees : (holder : Option ℕ) (t : ObjState) (p : ℕ) (reply : Reply) → Gives (mutex_step holder p Unlock) t reply → t ≡ Mutex None
unlock_frees None t p reply e = absurd (no_step e)
unlock_frees (Some q) t p reply e = freeing_frees (q == p) t reply e

acquires : (holder : Option ℕ) (t : ObjState) (p : ℕ) (op : Op) (reply : Reply) → Gives (mutex_step holder p op) t reply → is_acquiring op reply ≡ true → t ≡ Mutex (Some p)
acquires None t p Lock reply e given = sym (state_given e)
acquires None t p TryLock reply e given = sym (state_given e)
acquires (Some q) t p Lock reply e given = absurd (no_step e)
acquires (Some q) t p TryLock reply e given = absurd (not_both (is_acquiring TryLock reply) given (subst (λ (r : Reply). is_acquiring TryLock r ≡ false) (reply_given e) refl))
acquires holder t p op reply e given = absurd (not_both false given refl)

pub mutex_keeps : MutexLaw after
mutex_keeps = record {
  alone = mutex_runs;
  locks = lock_answers;
  tries = try_answers;
  unlocks = unlock_answers;
  takes = acquires;
  frees = unlock_frees;
}
