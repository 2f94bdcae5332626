-- Who gives a mutex back took it: so no linearization has an unlock of a process that does not hold it.
use Rattle.std.proofs.Common.{◌≡◌, ℕ, ◌<◌, Bool, true, false, Option, Some, None, List, [], ◌∷◌, ◌++◌, length, ◌⊎◌, inl, inr, refl, sym, ◌∙◌, ap, subst, append_assoc, true≢false, arith}
use Rattle.std.specs.List.{slice_get}
use Rattle.lin_object.specs.declared.op.Op.{Op}
use Rattle.lin_object.specs.declared.op.Op.TheVariants.{Lock, Unlock, TryLock}
use Rattle.lin_object.specs.declared.reply.Reply.{Reply}
use Rattle.lin_object.specs.declared.reply.Reply.TheVariants.{Okay, Flag}
use Rattle.lin_object.specs.declared.state.ObjState.{ObjState}
use Rattle.lin_object.specs.declared.state.ObjState.TheVariants.{Mutex}
use Rattle.lin_object.specs.contracts.reply.ReplyPartialEq.TheImpl.{eq-value as reply_eq}
use Rattle.lin_object.specs.Kinds.{after}
use Rattle.lin_object.specs.Kinds.Mutex.{mutex_step}
use Rattle.lin_history.specs.declared.problems.problem.ProblemCall.{ProblemCall}
use Rattle.lin_history.specs.OptionLemmas.{some_and, and_some}
use Rattle.lin_history.specs.ReplyLemmas.{reply_same}
use Rattle.lin_history.specs.Problems.Lists.{In, IsDistinct}
use Rattle.lin_history.specs.Problems.ListLemmas.{in_early, in_late, in_either, in_place, apart, has_none}
use Rattle.lin_history.specs.Problems.Problem.{Problem}
use Rattle.lin_history.specs.Problems.ProblemParts.{ProblemParts}
use Rattle.lin_history.specs.Problems.LegalLists.{after_call, fits, state_if_fits, next, Legal}
use Rattle.lin_history.specs.Problems.Precedence.{Before}
use Rattle.lin_history.specs.Problems.Linearizations.{IsLinearization}
use Rattle.lin_history.specs.Problems.AnyProblem.{any_problem}
use Rattle.lin_ahead.specs.Mutexes.Acquires.{acquired, takes_if_free}
use Rattle.lin_laws.specs.InTurn.{AreInTurn}
use Rattle.lin_ahead.specs.Mutexes.Strays.{UnlocksFor, HoldsAfter, SomeIsStray}
use Rattle.lin_ahead.proofs.mutexes.StepLemmas.{none_some, fits_then, held_step}

three : (i j : ℕ) → (i < j) ⊎ ((i ≡ j) ⊎ (j < i))
three i j = grind arith

one : {A : Type 0} (x y : A) → Some x ≡ Some y → x ≡ y
one x y e = cc

true_false : {A : Type 0} {b : Bool} → b ≡ true → b ≡ false → A
true_false e f = absurd (cc)

no_some : {A : Type 0} (x : A) → ◌≡◌ {A = Option A} None (Some x) → ⊥
no_some x e = absurd (cc)

-- ---- steps of a mutex

-- what comes where it is free takes it, and is an acquire if it returned
module _ (process : ℕ) (returned : Option (ℕ × Reply)) (t : ObjState) where
  abbrev IsFreeStep : Op → Type 0
  IsFreeStep op = (t ≡ Mutex (Some process)) × ((op ≡ Unlock) → ⊥) × ((r : ℕ × Reply) → returned ≡ Some r → acquired op returned ≡ Some r.0)

  lock_acquires : (o : Option (ℕ × Reply)) (r : ℕ × Reply) → o ≡ Some r → acquired Lock o ≡ Some r.0
  lock_acquires None r e = absurd (no_some r e)
  lock_acquires (Some q) r e = ap (λ (w : ℕ × Reply). Some w.0) (one q r e)

  try_acquires : (o : Option (ℕ × Reply)) (r : ℕ × Reply) → o ≡ Some r → fits reply_eq.it (Flag true) o ≡ true → acquired TryLock o ≡ Some r.0
  try_acquires None r e f = absurd (no_some r e)
  try_acquires (Some q) r e f = (let is : Flag true ≡ q.1 = reply_same (Flag true) q.1 f in subst (λ (w : Reply). acquired TryLock (Some (q.0, w)) ≡ Some r.0) is (ap (λ (w : ℕ × Reply). Some w.0) (one q r e)))

  op_apart : (op : Op) → takes_if_free op ≡ true → op ≡ Unlock → ⊥
  op_apart op k e = true≢false (sym (subst (λ (o : Op). takes_if_free o ≡ true) e k))

  free_step : (op : Op) → state_if_fits reply_eq.it returned (mutex_step None process op) ≡ Some t → IsFreeStep op
  free_step Lock e = (let f = fits_then (fits reply_eq.it Okay returned) (Mutex (Some process)) t e in (sym f.1, op_apart Lock refl, lock_acquires returned))
  free_step TryLock e = (let f = fits_then (fits reply_eq.it (Flag true) returned) (Mutex (Some process)) t e in (sym f.1, op_apart TryLock refl, λ r k. try_acquires returned r k f.0))
  free_step op e = none_some t e

mutex_holders : (g h : ℕ) → Mutex (Some g) ≡ Mutex (Some h) → g ≡ h
mutex_holders g h e = cc

not_free : (h : ℕ) → Mutex None ≡ Mutex (Some h) → ⊥
not_free h e = absurd (cc)

try_no_unlock : (op : Op) → op ≡ TryLock → op ≡ Unlock → ⊥
try_no_unlock op e f = (let g : TryLock ≡ Unlock = sym e ∙ f in absurd (cc))

module _ {Object : Type 0} (parts : ProblemParts Object ObjState Op Reply) where
  abbrev A : Problem ObjState Op Reply
  A = any_problem parts

  stepped : (o : Option (ProblemCall Op Reply)) (s t : ObjState) → after_call A s o ≡ Some t → (x : ProblemCall Op Reply) × (o ≡ Some x) × (state_if_fits reply_eq.it x.returned (after s x.process x.op) ≡ Some t)
  stepped None s t e = none_some t e
  stepped (Some x) s t e = (x, refl, e)

  one_call : (c : ℕ) (x y : ProblemCall Op Reply) → slice_get parts.calls c ≡ Some x → slice_get parts.calls c ≡ Some y → x ≡ y
  one_call c x y e f = one x y (sym e ∙ f)

  -- no call of the list is an unlock of the process
  abbrev NoUnlock : ℕ → List ℕ → Type 0
  NoUnlock q l = (u : ℕ) → In u l → UnlocksFor A q u → ⊥

  -- a call of the list took the mutex for the process, and no later one of the list is an unlock of it
  record Taken (q : ℕ) (l : List ℕ) : Type 0 where
    early : List ℕ
    t : ℕ
    late : List ℕ
    x : ProblemCall Op Reply
    is : l ≡ early ++ t ∷ late
    call : slice_get parts.calls t ≡ Some x
    own : x.process ≡ q
    other : (x.op ≡ Unlock) → ⊥
    acquires : (r : ℕ × Reply) → x.returned ≡ Some r → acquired x.op x.returned ≡ Some r.0
    kept : NoUnlock q late

  abbrev Holds : ℕ → Option ℕ → List ℕ → Type 0
  Holds q holder l = ((holder ≡ Some q) × NoUnlock q l) ⊎ Taken q l

  taken_later : (q d : ℕ) (l : List ℕ) → Taken q l → Taken q (d ∷ l)
  taken_later q d l k = record { early = d ∷ k.early; t = k.t; late = k.late; x = k.x; is = ap (λ (m : List ℕ). d ∷ m) k.is; call = k.call; own = k.own; other = k.other; acquires = k.acquires; kept = k.kept }

  none_first : (q d : ℕ) (l : List ℕ) (x : ProblemCall Op Reply) → slice_get parts.calls d ≡ Some x → ((x.op ≡ Unlock) → ⊥) → NoUnlock q l → NoUnlock q (d ∷ l)
  none_first q d l x e other none u there unlocks = elim there [
    | inl same ↦ other (ap (λ (z : ProblemCall Op Reply). z.op) (one_call d x unlocks.0 e (subst (λ (n : ℕ). slice_get parts.calls n ≡ Some unlocks.0) same unlocks.1)) ∙ unlocks.2)
    | inr more ↦ none u more unlocks
  ]

  -- whoever holds the mutex at the end of a list took it there, or held it before
  held_by : (q : ℕ) (l : List ℕ) (holder : Option ℕ) → Legal A (Mutex holder) l (Mutex (Some q)) → Holds q holder l
  held_by q [] holder legal = inl ((let e : Mutex holder ≡ Mutex (Some q) = legal in cc), λ u there. absurd there)
  held_by q (d ∷ ds) None (m, step, rest) =
      let s = stepped (slice_get parts.calls d) (Mutex None) m step in
      let f = free_step s.0.process s.0.returned m s.0.op s.2 in
      elim (held_by q ds (Some s.0.process) (subst (λ (z : ObjState). Legal A z ds (Mutex (Some q))) f.0 rest)) [
        | inl k ↦ inr (record { early = []; t = d; late = ds; x = s.0; is = refl; call = s.1; own = one s.0.process q k.0; other = f.1; acquires = f.2; kept = k.1 })
        | inr k ↦ inr (taken_later q d ds k)
      ]
  held_by q (d ∷ ds) (Some h) (m, step, rest) =
      let s = stepped (slice_get parts.calls d) (Mutex (Some h)) m step in
      elim (held_step s.0.process s.0.returned m h s.0.op s.2) [
        | inl k ↦ elim (held_by q ds None (subst (λ (z : ObjState). Legal A z ds (Mutex (Some q))) k.2 rest)) [
          | inl f ↦ absurd (no_some q f.0)
          | inr f ↦ inr (taken_later q d ds f)
        ]
        | inr k ↦ elim (held_by q ds (Some h) (subst (λ (z : ObjState). Legal A z ds (Mutex (Some q))) k.1 rest)) [
          | inl f ↦ inl (f.0, none_first q d ds s.0 s.1 (try_no_unlock s.0.op k.0) f.1)
          | inr f ↦ inr (taken_later q d ds f)
        ]
      ]

  -- an unlock is made where its process holds the mutex
  unlock_finds : (process : ℕ) (returned : Option (ℕ × Reply)) (t : ObjState) (holder : Option ℕ) → state_if_fits reply_eq.it returned (mutex_step holder process Unlock) ≡ Some t → holder ≡ Some process
  unlock_finds process returned t None e = none_some t e
  unlock_finds process returned t (Some h) e = elim (held_step process returned t h Unlock e) [
    | inl k ↦ ap Some (sym k.1)
    | inr k ↦ absurd (let g : Unlock ≡ TryLock = k.0 in cc)
  ]

  -- a mutex stays a mutex
  legal_at : (front : List ℕ) (c : ℕ) (rest : List ℕ) (holder : Option ℕ) (u : ObjState) → Legal A (Mutex holder) (front ++ c ∷ rest) u → (at : Option ℕ) × (m : ObjState) × Legal A (Mutex holder) front (Mutex at) × (next A (Mutex at) c ≡ Some m)
  legal_at [] c rest holder u k = (holder, k.0, refl, k.1)
  legal_at (d ∷ front) c rest holder u k =
      let s = stepped (slice_get parts.calls d) (Mutex holder) k.0 k.1 in
      let after_d = stays holder s.0.process s.0.returned s.0.op k.0 s.2 in
      let more = legal_at front c rest after_d.0 u (subst (λ (z : ObjState). Legal A z (front ++ c ∷ rest) u) after_d.1 k.2) in
      (more.0, more.1, (k.0, k.1, subst (λ (z : ObjState). Legal A z front (Mutex more.0)) (sym after_d.1) more.2), more.3)
    where
      stays : (holder : Option ℕ) (process : ℕ) (returned : Option (ℕ × Reply)) (op : Op) (m : ObjState) → state_if_fits reply_eq.it returned (mutex_step holder process op) ≡ Some m → (h : Option ℕ) × (m ≡ Mutex h)
      stays None process returned op m e = (Some process, (free_step process returned m op e).0)
      stays (Some h) process returned op m e = elim (held_step process returned m h op e) [
        | inl f ↦ (None, f.2)
        | inr f ↦ (Some h, f.1)
      ]

  -- so a linearization of a mutex that is free at the start has no such unlock
  pub no_stray : AreInTurn A → SomeIsStray A → (l : List ℕ) → IsLinearization A l → ⊥
  no_stray turn (start, (w, (x, is, op, returned, free))) l whole =
      let there : In w l = elim (whole.complete w (and_some (slice_get parts.calls w) _ x is returned)) [
        | inl q ↦ true_false q (has_none (length parts.calls) w)
        | inr q ↦ q
      ] in
      found (in_place w l there)
    where
      found : (front : List ℕ) × (rest : List ℕ) × (l ≡ front ++ w ∷ rest) → ⊥
      found (front, rest, place) =
          let u = whole.continuation.legal.0 in
          let k = legal_at front w rest None u (subst (λ (z : ObjState). Legal A z (front ++ w ∷ rest) u) start (subst (λ (z : List ℕ). Legal A parts.start z u) place whole.continuation.legal.1)) in
          let s = stepped (slice_get parts.calls w) (Mutex k.0) k.1 k.3 in
          let same : x ≡ s.0 = one_call w x s.0 is s.1 in
          let step : state_if_fits reply_eq.it x.returned (mutex_step k.0 x.process Unlock) ≡ Some k.1 = subst (λ (o : Op). state_if_fits reply_eq.it x.returned (mutex_step k.0 x.process o) ≡ Some k.1) op (subst (λ (y : ProblemCall Op Reply). state_if_fits reply_eq.it y.returned (after (Mutex k.0) y.process y.op) ≡ Some k.1) (sym same) s.2) in
          let holder : k.0 ≡ Some x.process = unlock_finds x.process x.returned k.1 k.0 step in
          elim (held_by x.process front None (subst (λ (h : Option ℕ). Legal A (Mutex None) front (Mutex h)) holder k.2)) [
            | inl h ↦ no_some x.process h.0
            | inr h ↦ took front rest place h
          ]
        where
          took : (front rest : List ℕ) → l ≡ front ++ w ∷ rest → Taken x.process front → ⊥
          took front rest place h = by (three h.t w)
            where
              in_front : In h.t front
              in_front = subst (In h.t) (sym h.is) (in_late h.t h.early (h.t ∷ h.late) (inl refl))

              whole_place : l ≡ h.early ++ h.t ∷ (h.late ++ w ∷ rest)
              whole_place = place ∙ ap (λ (m : List ℕ). m ++ w ∷ rest) h.is ∙ append_assoc h.early (h.t ∷ h.late) (w ∷ rest)

              later : w < h.t → ⊥
              later high = elim (whole.continuation.ordered h.early h.t (h.late ++ w ∷ rest) whole_place w (turn w h.t x h.x high is h.call (sym h.own))) [
                | inl z ↦ true_false z (has_none (length parts.calls) w)
                | inr z ↦ apart w front (w ∷ rest) (subst IsDistinct place whole.continuation.distinct) (subst (In w) (sym h.is) (in_early w h.early (h.t ∷ h.late) z)) (inl refl)
              ]

              holds : Before A h.t w → HoldsAfter A w x.process
              holds before =
                  let z = some_and (slice_get parts.calls h.t) _ before in
                  let r = some_and z.0.returned _ z.2 in
                  let own : h.x ≡ z.0 = one_call h.t h.x z.0 h.call z.1 in
                  let told : h.x.returned ≡ Some r.0 = ap (λ (y : ProblemCall Op Reply). y.returned) own ∙ r.1 in
                  (h.t, (h.x, r.0.0, h.call, h.acquires r.0 told, h.own), less, kept)
                where
                  less : h.t < w
                  less = elim (three h.t w) [
                    | inl low ↦ low
                    | inr (inl e) ↦ absurd (h.other (ap (λ (y : ProblemCall Op Reply). y.op) (one_call w h.x x (subst (λ (n : ℕ). slice_get parts.calls n ≡ Some h.x) e h.call) is) ∙ op))
                    | inr (inr high) ↦ absurd (later high)
                  ]

                  kept : (v : ℕ) → UnlocksFor A x.process v → h.t < v → v < w → ⊥
                  kept v unlocks low high = between (turn h.t v h.x unlocks.0 low h.call unlocks.1 (h.own ∙ sym unlocks.3)) (turn v w unlocks.0 x high unlocks.1 is unlocks.3)
                    where
                      between : Before A h.t v → Before A v w → ⊥
                      between first second = elim (whole.continuation.ordered front w rest place v second) [
                        | inl q ↦ true_false q (has_none (length parts.calls) v)
                        | inr q ↦ elim (in_either v h.early (h.t ∷ h.late) (subst (In v) h.is q)) [
                          | inl early ↦ (
                              let at = in_place v h.early early in
                              let eq : l ≡ at.0 ++ v ∷ (at.1 ++ h.t ∷ (h.late ++ w ∷ rest)) = whole_place ∙ ap (λ (m : List ℕ). m ++ h.t ∷ (h.late ++ w ∷ rest)) at.2 ∙ append_assoc at.0 (v ∷ at.1) (h.t ∷ (h.late ++ w ∷ rest)) in
                              elim (whole.continuation.ordered at.0 v (at.1 ++ h.t ∷ (h.late ++ w ∷ rest)) eq h.t first) [
                                | inl z ↦ true_false z (has_none (length parts.calls) h.t)
                                | inr z ↦ apart h.t h.early (h.t ∷ (h.late ++ w ∷ rest)) (subst IsDistinct whole_place whole.continuation.distinct) (subst (In h.t) (sym at.2) (in_early h.t at.0 (v ∷ at.1) z)) (inl refl)
                              ]
                              )
                          | inr (inl same) ↦ absurd (let e : v ≡ h.t = same in omega (arith, low, e))
                          | inr (inr late) ↦ h.kept v late unlocks
                        ]
                      ]

              by : (h.t < w) ⊎ ((h.t ≡ w) ⊎ (w < h.t)) → ⊥
              by (inl low) = free (holds (turn h.t w h.x x low h.call is h.own))
              by (inr (inl e)) = h.other (ap (λ (y : ProblemCall Op Reply). y.op) (one_call w h.x x (subst (λ (n : ℕ). slice_get parts.calls n ≡ Some h.x) e h.call) is) ∙ op)
              by (inr (inr high)) = later high
