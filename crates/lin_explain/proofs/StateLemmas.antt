-- The state after a run, as the loop over its calls has it.
use Rattle.std.proofs.Common.{◌≡◌, ℕ, ◌+◌, ◌<◌, ◌≤◌, Bool, true, false, cond, List, [], ◌∷◌, drop, length, get_or, Option, Some, None, inl, inr, refl, sym, ap, subst, ◌∙◌}
use Rattle.std.specs.List.{slice_get}
use Rattle.std.proofs.lemmas.Option.{slice_get_within, same_Some}
use Rattle.lin_history.specs.declared.problems.problem.ProblemCall.{ProblemCall}
use Rattle.lin_history.specs.Problems.Lists.{In}
use Rattle.lin_history.specs.Problems.Problem.{Problem}
use Rattle.lin_history.specs.Problems.LegalLists.{fits, state_if_fits, after_call, next, Legal}
use Rattle.lin_explain.proofs.ListLemmas.{drop_at, drop_none}

module _ {State Op Reply : Type 0} (p : Problem State Op Reply) where
  -- the call of this number, and its step
  pub record HasStep (s : State) (k : ℕ) (m : State) : Type 0 where
    pub call : ProblemCall Op Reply
    pub reply : Reply
    pub there : slice_get p.calls k ≡ Some call
    pub step : p.after s call.process call.op ≡ Some (m, reply)

  if_fits : (t : Bool) (x m : State) → (cond t (Some x) None) ≡ Some m → x ≡ m
  if_fits true x m e = cc
  if_fits false x m e = absurd (cc)

  answered : (s m : State) (k : ℕ) (c : ProblemCall Op Reply) (o : Option (State × Reply)) → slice_get p.calls k ≡ Some c → p.after s c.process c.op ≡ o → state_if_fits p.same_reply c.returned o ≡ Some m → HasStep s k m
  answered s m k c None there e f = absurd (cc)
  answered s m k c (Some a) there e f =
      let r = if_fits (fits p.same_reply a.1 c.returned) a.0 m f in
      record { call = c; reply = a.1; there = there; step = e ∙ ap (λ (x : State). Some (x, a.1)) r }

  called : (s m : State) (k : ℕ) (o : Option (ProblemCall Op Reply)) → slice_get p.calls k ≡ o → after_call p s o ≡ Some m → HasStep s k m
  called s m k None there e = absurd (cc)
  called s m k (Some c) there e = answered s m k c (p.after s c.process c.op) there refl e

  has_step : (s m : State) (k : ℕ) → next p s k ≡ Some m → HasStep s k m
  has_step s m k e = called s m k (slice_get p.calls k) refl e

  -- the calls of a legal list are calls of the problem
  pub legal_within : (l : List ℕ) (s t : State) → Legal p s l t → (c : ℕ) → In c l → c < length p.calls
  legal_within [] s t legal c h = absurd h
  legal_within (d ∷ l) s t legal c h = elim h [
    | inl e ↦ (let st = has_step s legal.0 d legal.1 in rw e (slice_get_within p.calls d st.call st.there))
    | inr more ↦ legal_within l legal.0 t legal.2 c more
  ]

  -- what is left of the run is legal from here, and leads where the run leads
  pub record IsWay (start : State) (run : List ℕ) (s : State) (rest : List ℕ) : Type 0 where
    pub ends : (t : State) × Legal p s rest t
    pub whole : (t : State) → Legal p s rest t → Legal p start run t

  pub way_start : (start s : State) (run : List ℕ) → s ≡ start → ((t : State) × Legal p start run t) → IsWay start run s run
  way_start start s run e ends = rw e (record { ends = ends; whole = λ t legal. legal })

  way_at : (start : State) (run : List ℕ) (s : State) (i : ℕ) → i < length run → IsWay start run s (drop i run) → IsWay start run s (get_or run i 0 ∷ drop (i + 1) run)
  way_at start run s i within w = subst (IsWay start run s) (drop_at 0 run i within) w

  -- the step of the call that stands next
  pub way_step : (start : State) (run : List ℕ) (s : State) (i : ℕ) → i < length run → IsWay start run s (drop i run) → (m : State) × HasStep s (get_or run i 0) m
  way_step start run s i within w =
      let v = way_at start run s i within w in
      (v.ends.1.0, has_step s v.ends.1.0 (get_or run i 0) v.ends.1.1)

  pub way_within : (start : State) (run : List ℕ) (s : State) (i : ℕ) → i < length run → IsWay start run s (drop i run) → get_or run i 0 < length p.calls
  way_within start run s i within w =
      let st = way_step start run s i within w in
      slice_get_within p.calls (get_or run i 0) st.1.call st.1.there

  state_same : (a b : State) (q r : Reply) (o : Option (State × Reply)) → o ≡ Some (a, q) → o ≡ Some (b, r) → a ≡ b
  state_same a b q r o e f = ap (λ (x : State × Reply). x.0) (same_Some (a, q) (b, r) (sym e ∙ f))

  -- the call has a step
  pub way_goes_on : (start : State) (run : List ℕ) (s : State) (i : ℕ) (c : ProblemCall Op Reply) → i < length run → IsWay start run s (drop i run) → slice_get p.calls (get_or run i 0) ≡ Some c → p.after s c.process c.op ≡ None → ⊥
  way_goes_on start run s i c within w there none =
      let st = (way_step start run s i within w).1 in
      let same : st.call ≡ c = (let f = st.there in cc) in
      let step : p.after s c.process c.op ≡ Some ((way_step start run s i within w).0, st.reply) = subst (λ (x : ProblemCall Op Reply). p.after s x.process x.op ≡ Some ((way_step start run s i within w).0, st.reply)) same st.step in
      cc

  pub way_next : (start : State) (run : List ℕ) (s m : State) (r : Reply) (i : ℕ) (c : ProblemCall Op Reply) → i < length run → slice_get p.calls (get_or run i 0) ≡ Some c → p.after s c.process c.op ≡ Some (m, r) → IsWay start run s (drop i run) → IsWay start run m (drop (i + 1) run)
  way_next start run s m r i c within there step w =
      let v = way_at start run s i within w in
      let e = v.ends.1 in
      let st = has_step s e.0 (get_or run i 0) e.1 in
      let same : st.call ≡ c = (let f = st.there in cc) in
      let known : p.after s c.process c.op ≡ Some (e.0, st.reply) = subst (λ (x : ProblemCall Op Reply). p.after s x.process x.op ≡ Some (e.0, st.reply)) same st.step in
      let here : e.0 ≡ m = state_same e.0 m st.reply r (p.after s c.process c.op) known step in
      subst (λ (x : State). IsWay start run x (drop (i + 1) run)) here (record { ends = (v.ends.0, e.2); whole = λ t legal. v.whole t (e.0, e.1, legal) })

  pub way_end : (start : State) (run : List ℕ) (s : State) (i : ℕ) → length run ≤ i → IsWay start run s (drop i run) → Legal p start run s
  way_end start run s i over w = (subst (IsWay start run s) (drop_none run i over) w).whole s refl
