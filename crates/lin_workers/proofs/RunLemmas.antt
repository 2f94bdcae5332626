-- Runs by their last call, and the configurations that they lead to.
use Rattle.std.proofs.Common.{◌≡◌, ℕ, suc, ◌<◌, Bool, true, false, Option, Some, List, [], ◌∷◌, ◌++◌, length, ◌⊎◌, inl, inr, refl, sym, ◌∙◌, ap, subst, arith}
use Rattle.std.proofs.Common.{take, drop, slice_index_or, zero, ◌-◌, ◌≤◌}
use Rattle.std.proofs.Math.Seq.{take-suc}
use Rattle.std.proofs.lemmas.List.{length-set, length-replicate}
use Rattle.lin_history.specs.Problems.Problem.{Problem}
use Rattle.lin_history.specs.Problems.LegalLists.{next, Legal}
use Rattle.lin_history.specs.Problems.Lists.{In}
use Rattle.lin_history.specs.Problems.Configurations.{IsReachable}
use Rattle.lin_history.specs.Problems.Continuations.{has, no_calls, IsContinuation}
use Rattle.lin_history.specs.Problems.Linearizations.{IsRun}
use Rattle.lin_search.specs.CallSet.{with_call, with_calls, lifted_set}
use Rattle.lin_search.specs.CallSetLemmas.{with_append, length_calls, no_calls_has, has_same, has_still, has_with}
use Rattle.lin_search.specs.NextCall.{IsNext}
use Rattle.lin_search.specs.FirstCallLemmas.{continuation_split, continuation_join, none_continues, next_within}
use Rattle.lin_search.specs.AlikeLemmas.{AreAlike, turned}
use Rattle.lin_workers.specs.Cut.{LeadsTo}

-- what an answer has is one value
pub some_once : {X : Type 0} (m : Option X) (a b : X) → m ≡ Some a → m ≡ Some b → a ≡ b
some_once m a b x y = cc

module _ {State Op Reply : Type 0} (p : Problem State Op Reply) where
  -- a continuation without its last call, where it ends, and the step of that call
  pub record IsSplit (set : List Bool) (s : State) (l : List ℕ) (c : ℕ) : Type 0 where
    pub end : State
    pub front : IsContinuation p set s l
    pub legal : Legal p s l end
    pub after : State
    pub step : IsNext p (with_calls set l) end c after
    pub whole : Legal p s (l ++ c ∷ []) after

  pub last_split : (set : List Bool) (s : State) (l : List ℕ) (c : ℕ) → length set ≡ length p.calls → IsContinuation p set s (l ++ c ∷ []) → IsSplit set s l c
  last_split set s [] c flags k =
      let q = continuation_split p set s c [] flags k in
      record { end = s; front = none_continues p set s; legal = refl; after = q.0; step = q.1; whole = (q.0, q.1.step, refl) }
  last_split set s (d ∷ l) c flags k =
      let q = continuation_split p set s d (l ++ c ∷ []) flags k in
      let r = last_split (with_call set d) q.0 l c (length-set set d true ∙ flags) q.2 in
      record {
        end = r.end;
        front = continuation_join p set s d l q.0 flags q.1 r.front;
        legal = (q.0, q.1.step, r.legal);
        after = r.after;
        step = r.step;
        whole = (q.0, q.1.step, r.whole);
      }

  -- a continuation with one call more at its end
  pub last_join : (set : List Bool) (s e : State) (l : List ℕ) (c : ℕ) (t : State) → length set ≡ length p.calls → IsContinuation p set s l → Legal p s l e → IsNext p (with_calls set l) e c t → IsContinuation p set s (l ++ c ∷ []) × Legal p s (l ++ c ∷ []) t
  last_join set s e [] c t flags k legal n =
      let m : IsNext p set s c t = subst (λ (x : State). IsNext p set x c t) (sym legal) n in
      (continuation_join p set s c [] t flags m (none_continues p (with_call set c) t), (t, m.step, refl))
  last_join set s e (d ∷ l) c t flags k legal n =
      let q = continuation_split p set s d l flags k in
      let same : q.0 ≡ legal.0 = some_once (next p s d) q.0 legal.0 q.1.step legal.1 in
      let r = last_join (with_call set d) q.0 e l c t (length-set set d true ∙ flags) q.2 (subst (λ (x : State). Legal p x l e) (sym same) legal.2) n in
      (continuation_join p set s d (l ++ c ∷ []) q.0 flags q.1 r.0, (q.0, q.1.step, r.1))

  -- a continuation, and then a list of which P holds where that leads: P holds of both, where a call in front keeps it
  pub joined : (P : List Bool → State → List ℕ → Type 0) → ((set : List Bool) (s : State) (c : ℕ) (cs : List ℕ) (t : State) → length set ≡ length p.calls → IsNext p set s c t → P (with_call set c) t cs → P set s (c ∷ cs)) → (set : List Bool) (s e : State) (l m : List ℕ) → length set ≡ length p.calls → IsContinuation p set s l → Legal p s l e → P (with_calls set l) e m → P set s (l ++ m)
  joined P in_front set s e [] m flags k legal h = subst (λ (x : State). P set x m) (sym legal) h
  joined P in_front set s e (c ∷ l) m flags k legal h =
      let q = continuation_split p set s c l flags k in
      let same = some_once (next p s c) q.0 legal.0 q.1.step legal.1 in
      in_front set s c (l ++ m) q.0 flags q.1 (joined P in_front (with_call set c) q.0 e l m (length-set set c true ∙ flags) q.2 (subst (λ (x : State). Legal p x l e) (sym same) legal.2) h)

  -- as many flags as calls
  pub flags_of : (l : List ℕ) → length (lifted_set p l) ≡ length p.calls
  flags_of l = length_calls (no_calls p) l ∙ length-replicate (length p.calls) false

  pub root_flags : length (no_calls p) ≡ length p.calls
  root_flags = length-replicate (length p.calls) false

  -- the run with no call leads to the configuration with no call
  pub leads_root : (s : State) → p.same_state p.start s ≡ true → LeadsTo p [] (no_calls p) s
  leads_root s same = record { run = none_continues p (no_calls p) p.start; calls = refl; ends = (p.start, refl, same) }

  module _ (alike : AreAlike p p) where
    chain : (s t u : State) → p.same_state s t ≡ true → p.same_state t u ≡ true → p.same_state s u ≡ true
    chain s t u a b = alike.equal_states.congr s t u a ∙ b

    back : (s t : State) → p.same_state s t ≡ true → p.same_state t s ≡ true
    back s t a = turned alike s t a

    -- a step from a state is one from an equal state too
    pub step_alike : (set : List Bool) (s t u : State) (c : ℕ) → p.same_state s t ≡ true → IsNext p set s c u → (v : State) × IsNext p set t c v × (p.same_state u v ≡ true)
    step_alike set s t u c same n =
        let q = alike.there.steps s t u c same n.step in
        (q.0, record { outside = n.outside; preceded = n.preceded; step = q.1 }, q.2)

    -- a run that leads to a configuration, and then a call that can follow
    pub leads_next : (l : List ℕ) (set : List Bool) (s : State) (c : ℕ) (t : State) → LeadsTo p l set s → IsNext p set s c t → LeadsTo p (l ++ c ∷ []) (with_call set c) t
    leads_next l set s c t k n =
        let e = k.ends in
        let q = step_alike set s e.0 t c (back e.0 s e.2) n in
        let r = last_join (no_calls p) p.start e.0 l c q.0 root_flags k.run e.1 (subst (λ (x : List Bool). IsNext p x e.0 c q.0) k.calls q.1) in
        record {
          run = r.0;
          calls = ap (λ (x : List Bool). with_call x c) k.calls ∙ sym (with_append (no_calls p) l (c ∷ []));
          ends = (q.0, r.1, back t q.0 q.2);
        }

    -- what a run leads to, its last call leads to from what the run without it leads to
    pub leads_last : (l : List ℕ) (c : ℕ) (set : List Bool) (t : State) → LeadsTo p (l ++ c ∷ []) set t → (s : State) × LeadsTo p l (lifted_set p l) s × ((u : State) × IsNext p (lifted_set p l) s c u × (p.same_state u t ≡ true)) × (set ≡ with_call (lifted_set p l) c)
    leads_last l c set t k =
        let q = last_split (no_calls p) p.start l c root_flags k.run in
        let e = k.ends in (
          q.end,
          record { run = q.front; calls = refl; ends = (q.end, q.legal, alike.equal_states.refl q.end) },
          (q.after, q.step, subst (λ (x : State). p.same_state x t ≡ true) (sym (ends_once (l ++ c ∷ []) p.start q.after e.0 q.whole e.1)) e.2),
          k.calls ∙ with_append (no_calls p) l (c ∷ []),
        )
      where
        ends_once : (l : List ℕ) (s a b : State) → Legal p s l a → Legal p s l b → a ≡ b
        ends_once [] s a b x y = sym x ∙ y
        ends_once (d ∷ l) s a b x y =
            ends_once l y.0 a b (subst (λ (m : State). Legal p m l a) (some_once (next p s d) x.0 y.0 x.1 y.1) x.2) y.2

    -- a run leads to equal configurations alike
    pub leads_equal : (l : List ℕ) (set : List Bool) (s t : State) → p.same_state s t ≡ true → LeadsTo p l set s → LeadsTo p l set t
    leads_equal l set s t same k = record { run = k.run; calls = k.calls; ends = (let e = k.ends in (e.0, e.1, chain e.0 s t e.2 same)) }

  -- a continuation without what stands at its end
  front_continues : (set : List Bool) (s : State) (l m : List ℕ) → length set ≡ length p.calls → IsContinuation p set s (l ++ m) → IsContinuation p set s l
  front_continues set s [] m flags k = none_continues p set s
  front_continues set s (c ∷ l) m flags k =
      let q = continuation_split p set s c (l ++ m) flags k in
      continuation_join p set s c l q.0 flags q.1 (front_continues (with_call set c) q.0 l m (length-set set c true ∙ flags) q.2)

  -- a call of a run is a call of the problem that the calls before it do not have
  pub call_of_run : (l : List ℕ) (c : ℕ) (m : List ℕ) → IsRun p (l ++ c ∷ m) → (c < length p.calls) × (has (lifted_set p l) c ≡ false)
  call_of_run l c m k =
      let q = last_split (no_calls p) p.start l c root_flags (front_continues (no_calls p) p.start (l ++ c ∷ []) m root_flags (subst (λ (x : List ℕ). IsRun p x) (parts l c m) k)) in
      (next_within p q.end q.after c q.step.step, q.step.outside)
    where
      parts : (l : List ℕ) (c : ℕ) (m : List ℕ) → l ++ c ∷ m ≡ (l ++ c ∷ []) ++ m
      parts [] c m = refl
      parts (d ∷ l) c m = ap (λ (x : List ℕ). d ∷ x) (parts l c m)

  -- the call of a run at an index
  pub call_at_run : (l : List ℕ) (i d : ℕ) → i < length l → IsRun p l → (slice_index_or l i d < length p.calls) × (has (lifted_set p (take i l)) (slice_index_or l i d) ≡ false)
  call_at_run l i d h k = call_of_run (take i l) (slice_index_or l i d) (drop (suc i) l) (subst (λ (x : List ℕ). IsRun p x) (parts l i d h) k)
    where
      parts : (l : List ℕ) (i d : ℕ) → i < length l → l ≡ take i l ++ slice_index_or l i d ∷ drop (suc i) l
      parts [] i d h = absurd (omega (arith, h))
      parts (c ∷ l) zero d h = refl
      parts (c ∷ l) (suc i) d h = ap (λ (x : List ℕ). c ∷ x) (parts l i d (omega (arith, h)))

  set_or_list : (l : List ℕ) (set : List Bool) (c : ℕ) → has (with_calls set l) c ≡ true → (has set c ≡ true) ⊎ In c l
  set_or_list [] set c h = inl h
  set_or_list (d ∷ l) set c h = elim (set_or_list l (with_call set d) c h) [
    | inl q ↦ elim (has_with set d c q) [ inl r ↦ inr (inl r) | inr r ↦ inl r ]
    | inr q ↦ inr (inr q)
  ]

  in_set : (l : List ℕ) (set : List Bool) (s : State) (c : ℕ) → length set ≡ length p.calls → IsContinuation p set s l → (has set c ≡ true) ⊎ In c l → has (with_calls set l) c ≡ true
  in_set [] set s c flags k h = elim h [ inl q ↦ q | inr q ↦ absurd q ]
  in_set (d ∷ l) set s c flags k h =
      let q = continuation_split p set s d l flags k in
      let w : d < length set = (let n = next_within p s q.0 d q.1.step in omega (arith, n, flags)) in
      in_set l (with_call set d) q.0 c (length-set set d true ∙ flags) q.2 (elim h [
        | inl r ↦ inl (has_still set d c w r)
        | inr (inl r) ↦ inl (rw r (has_same set d w))
        | inr (inr r) ↦ inr r
      ])

  -- what a run leads to is reachable
  pub leads_reachable : (l : List ℕ) (set : List Bool) (s : State) → LeadsTo p l set s → IsReachable p set s
  leads_reachable l set s k = record {
    flags = rw k.calls (flags_of l);
    run = (
      l,
      k.run,
      (λ c. (
        λ h. elim (set_or_list l (no_calls p) c (subst (λ (x : List Bool). has x c ≡ true) k.calls h)) [
          | inl q ↦ absurd (let e = no_calls_has (length p.calls) c in cc)
          | inr q ↦ q
        ],
        λ h. rw k.calls (in_set l (no_calls p) p.start c root_flags k.run (inr h)),
      )),
      k.ends,
    );
  }

-- the first n of a list, and the last of them by itself
pub last_taken_of : (l : List ℕ) (n : ℕ) → 0 < n → n ≤ length l → take n l ≡ take (n - 1) l ++ slice_index_or l (n - 1) 0 ∷ []
last_taken_of l zero h k = absurd (omega (arith, h))
last_taken_of l (suc n) h k =
    let e : n ≡ suc n - 1 = omega (arith) in
    subst (λ (i : ℕ). take (suc n) l ≡ take i l ++ slice_index_or l i 0 ∷ []) e (take-suc l n 0 (omega (arith, k)))
