-- Steps of a mutex: what takes it where it is free, and what may come while it is held.
use Rattle.std.proofs.Common.{◌≡◌, ℕ, ◌==◌, Bool, true, false, Option, Some, None, [], ◌∷◌, ◌⊎◌, inl, inr, refl, sym, ap, subst, eqb-true}
use Rattle.std.specs.Prelude.{if◌then◌else◌}
use Rattle.lin_object.specs.declared.op.Op.{Op}
use Rattle.lin_object.specs.declared.op.Op.TheVariants.{Lock, Unlock, TryLock}
use Rattle.lin_object.specs.declared.reply.Reply.{Reply}
use Rattle.lin_object.specs.declared.reply.Reply.TheVariants.{Okay, Int, Flag, Empty}
use Rattle.lin_object.specs.declared.state.ObjState.{ObjState}
use Rattle.lin_object.specs.declared.state.ObjState.TheVariants.{Register, Counter, Queue, Stack, Set, Mutex, Map}
use Rattle.lin_object.specs.contracts.reply.ReplyPartialEq.TheImpl.{eq-value as reply_eq}
use Rattle.lin_object.specs.Kinds.{after}
use Rattle.lin_object.specs.Kinds.Mutex.{mutex_step}
use Rattle.lin_history.specs.ReplyLemmas.{reply_same}
use Rattle.lin_history.specs.Problems.LegalLists.{fits, state_if_fits}
use Rattle.lin_ahead.specs.Mutexes.Acquires.{acquired, takes_if_free}
use Rattle.lin_ahead.specs.Mutexes.HeldUntil.{took}

no : true ≡ false → ⊥
no e = cc

pub none_some : {A B : Type 0} (x : A) → ◌≡◌ {A = Option A} None (Some x) → B
none_some x e = absurd (cc)

pub fits_then : (b : Bool) (u t : ObjState) → (if b then Some u else None) ≡ Some t → (b ≡ true) × (u ≡ t)
fits_then true u t e = (refl, (let same : ◌≡◌ {A = Option ObjState} (Some u) (Some t) = e in cc))
fits_then false u t e = none_some t e

-- an acquire has not answered 'no'
pub not_refused : (op : Op) (returned : Option (ℕ × Reply)) (event : ℕ) → acquired op returned ≡ Some event → op ≡ TryLock → fits reply_eq.it (Flag false) returned ≡ true → ⊥
not_refused op returned event e is f = refused returned (subst (λ (o : Op). acquired o returned ≡ Some event) is e) f
  where
    refused : (r : Option (ℕ × Reply)) → acquired TryLock r ≡ Some event → fits reply_eq.it (Flag false) r ≡ true → ⊥
    refused None k g = none_some event k
    refused (Some (n, Flag true)) k g = no (flags (reply_same (Flag false) (Flag true) g))
      where
        flags : Flag false ≡ Flag true → true ≡ false
        flags h = cc
    refused (Some (n, Flag false)) k g = none_some event k
    refused (Some (n, Okay)) k g = none_some event k
    refused (Some (n, Int v)) k g = none_some event k
    refused (Some (n, Empty)) k g = none_some event k

-- an acquire is no unlock
pub no_unlock : (op : Op) (returned : Option (ℕ × Reply)) (event : ℕ) → acquired op returned ≡ Some event → op ≡ Unlock → ⊥
no_unlock op returned event e is = none_some event (subst (λ (o : Op). acquired o returned ≡ Some event) is e)

-- nor is a call that takes the mutex
pub no_taker : (op : Op) → takes_if_free op ≡ true → op ≡ Unlock → ⊥
no_taker op e is = no (sym (subst (λ (o : Op). takes_if_free o ≡ true) is e))

-- an acquire takes the mutex where it is free
pub takes : (op : Op) (returned : Option (ℕ × Reply)) (event : ℕ) → acquired op returned ≡ Some event → takes_if_free op ≡ true
takes Lock returned event e = refl
takes TryLock returned event e = refl
takes op returned event e = none_some event e

-- an acquire returned at its event
pub acquired_then : (op : Op) (returned : Option (ℕ × Reply)) (event : ℕ) → acquired op returned ≡ Some event → (reply : Reply) × (returned ≡ Some (event, reply))
acquired_then Lock (Some (n, reply)) event e = (reply, (let h : n ≡ event = cc in ap (λ (k : ℕ). Some (k, reply)) h))
acquired_then TryLock (Some (n, Flag true)) event e = (Flag true, (let h : n ≡ event = cc in ap (λ (k : ℕ). Some (k, Flag true)) h))
acquired_then op returned event e = none_some event e

module _ (process : ℕ) (returned : Option (ℕ × Reply)) (t : ObjState) where
  -- where it is free, such a call leaves its process the holder
  pub taken : (op : Op) → takes_if_free op ≡ true → state_if_fits reply_eq.it returned (mutex_step None process op) ≡ Some t → t ≡ Mutex (Some process)
  taken Lock k e = sym (fits_then (fits reply_eq.it Okay returned) (Mutex (Some process)) t e).1
  taken TryLock k e = sym (fits_then (fits reply_eq.it (Flag true) returned) (Mutex (Some process)) t e).1
  taken op k e = none_some t e

  -- an acquire finds it free, and leaves its process the holder
  pub acquired_finds : (s : ObjState) (op : Op) (event : ℕ) → acquired op returned ≡ Some event → state_if_fits reply_eq.it returned (after s process op) ≡ Some t → (s ≡ Mutex None) × (t ≡ Mutex (Some process))
  acquired_finds (Mutex None) op event k e = (refl, taken op (takes op returned event k) e)
  acquired_finds (Mutex (Some h)) Lock event k e = none_some t e
  acquired_finds (Mutex (Some h)) TryLock event k e = absurd (not_refused TryLock returned event k refl (fits_then (fits reply_eq.it (Flag false) returned) (Mutex (Some h)) t e).0)
  acquired_finds (Register v) Lock event k e = none_some t e
  acquired_finds (Register v) TryLock event k e = none_some t e
  acquired_finds (Counter v) Lock event k e = none_some t e
  acquired_finds (Counter v) TryLock event k e = none_some t e
  acquired_finds (Queue []) Lock event k e = none_some t e
  acquired_finds (Queue []) TryLock event k e = none_some t e
  acquired_finds (Queue (v ∷ items)) Lock event k e = none_some t e
  acquired_finds (Queue (v ∷ items)) TryLock event k e = none_some t e
  acquired_finds (Stack []) Lock event k e = none_some t e
  acquired_finds (Stack []) TryLock event k e = none_some t e
  acquired_finds (Stack (v ∷ items)) Lock event k e = none_some t e
  acquired_finds (Stack (v ∷ items)) TryLock event k e = none_some t e
  acquired_finds (Set items) Lock event k e = none_some t e
  acquired_finds (Set items) TryLock event k e = none_some t e
  acquired_finds (Map pairs) Lock event k e = none_some t e
  acquired_finds (Map pairs) TryLock event k e = none_some t e
  acquired_finds s op event k e = none_some event k

  pub acquired_free : (s : ObjState) (op : Op) (event : ℕ) → acquired op returned ≡ Some event → state_if_fits reply_eq.it returned (after s process op) ≡ Some t → t ≡ Mutex (Some process)
  acquired_free s op event k e = (acquired_finds s op event k e).1

  -- the steps of a mutex that is held
  abbrev pub IsHeldStep : ℕ → Op → Type 0
  IsHeldStep h op = ((op ≡ Unlock) × (process ≡ h) × (t ≡ Mutex None)) ⊎ ((op ≡ TryLock) × (t ≡ Mutex (Some h)) × (fits reply_eq.it (Flag false) returned ≡ true))

  unlock_step : (h : ℕ) (b : Bool) → (h == process) ≡ b → state_if_fits reply_eq.it returned (if b then Some (Mutex None, Okay) else None) ≡ Some t → IsHeldStep h Unlock
  unlock_step h true same e = inl (refl, sym (eqb-true h process same), sym (fits_then (fits reply_eq.it Okay returned) (Mutex None) t e).1)
  unlock_step h false same e = none_some t e

  pub held_step : (h : ℕ) (op : Op) → state_if_fits reply_eq.it returned (mutex_step (Some h) process op) ≡ Some t → IsHeldStep h op
  held_step h Unlock e = unlock_step h (h == process) refl e
  held_step h TryLock e = (let f = fits_then (fits reply_eq.it (Flag false) returned) (Mutex (Some h)) t e in inr (refl, sym f.1, f.0))
  held_step h op e = none_some t e

-- a call that took the mutex is an acquire, and takes it where it is free
pub took_acquires : (op : Op) (returned : Option (ℕ × Reply)) → took op returned ≡ true → (event : ℕ) × (acquired op returned ≡ Some event)
took_acquires Lock (Some (event, Okay)) e = (event, refl)
took_acquires TryLock (Some (event, Flag true)) e = (event, refl)
took_acquires op returned e = absurd (no (sym e))

pub took_takes : (process : ℕ) (op : Op) (returned : Option (ℕ × Reply)) → took op returned ≡ true → state_if_fits reply_eq.it returned (after (Mutex None) process op) ≡ Some (Mutex (Some process))
took_takes process Lock (Some (event, Okay)) e = refl
took_takes process TryLock (Some (event, Flag true)) e = refl
took_takes process op returned e = absurd (no (sym e))

-- a try that answered 'no' has a step whoever holds the mutex
pub try_fails : (g process : ℕ) (op : Op) (returned : Option (ℕ × Reply)) → op ≡ TryLock → fits reply_eq.it (Flag false) returned ≡ true → state_if_fits reply_eq.it returned (after (Mutex (Some g)) process op) ≡ Some (Mutex (Some g))
try_fails g process op returned is f = subst (λ (o : Op). state_if_fits reply_eq.it returned (after (Mutex (Some g)) process o) ≡ Some (Mutex (Some g))) (sym is) (ap (λ (b : Bool). if b then Some (Mutex (Some g)) else None) f)
