-- Continuations and completions by their first call: the call, and then one of the configuration that it leads to.
use Rattle.std.proofs.Common.{◌≡◌, ◌≢◌, ℕ, ◌<◌, Bool, false, Some, List, [], ◌∷◌, ◌++◌, length, set, ◌⊎◌, inl, inr, refl, sym, ◌∙◌, ap, subst, arith}
use Rattle.std.proofs.lemmas.Option.{slice_get_cases}
use Rattle.lin_history.specs.Problems.Problem.{Problem}
use Rattle.lin_history.specs.Problems.Lists.{In}
use Rattle.lin_history.specs.Problems.LegalLists.{next}
use Rattle.lin_history.specs.Problems.Precedence.{Before}
use Rattle.lin_history.specs.Problems.Continuations.{has, IsContinuation, IsCompletion}
use Rattle.lin_search.specs.CallSet.{with_call}
use Rattle.lin_search.specs.CallSetLemmas.{same_or_not, has_same, has_other, has_still, has_with}
use Rattle.lin_search.specs.NextCall.{IsNext, HasEveryCompleted}

-- a part of a list that begins with c
begins : (c : ℕ) (cs early : List ℕ) (b : ℕ) (late : List ℕ) → c ∷ cs ≡ early ++ b ∷ late → ((early ≡ []) × (b ≡ c)) ⊎ ((rest : List ℕ) × (early ≡ c ∷ rest) × (cs ≡ rest ++ b ∷ late))
begins c cs [] b late e = inl (refl, cc)
begins c cs (d ∷ rest) b late e = inr (rest, (cc), cc)

-- the empty list has no part with a call in it
pub no_part : (early : List ℕ) (b : ℕ) (late : List ℕ) → [] ≡ early ++ b ∷ late → ⊥
no_part [] b late e = cc
no_part (d ∷ early) b late e = cc

module _ {State Op Reply : Type 0} (p : Problem State Op Reply) where
  -- a call with a step is a call of the problem
  pub next_within : (s t : State) (c : ℕ) → next p s c ≡ Some t → c < length p.calls
  next_within s t c e = elim (slice_get_cases p.calls c).1 [ inl k ↦ k.1 | inr q ↦ absurd (let e' = rw q.1 at e in cc) ]

  -- the rest of a continuation, after its first call
  pub continuation_split : (set : List Bool) (s : State) (c : ℕ) (cs : List ℕ) → length set ≡ length p.calls → IsContinuation p set s (c ∷ cs) → (t : State) × IsNext p set s c t × IsContinuation p (with_call set c) t cs
  continuation_split set s c cs flags k = (t, is_next, rest)
    where
      t : State
      t = k.legal.1.0

      step : next p s c ≡ Some t
      step = k.legal.1.1

      within : c < length set
      within = let h = next_within s t c step in omega (arith, flags, h)

      is_next : IsNext p set s c t
      is_next = record {
        outside = k.outside c (inl refl);
        preceded = λ a before. elim (k.ordered [] c cs refl a before) [ inl h ↦ h | inr h ↦ absurd h ];
        step = step;
      }

      other : (d : ℕ) → In d cs → d ≢ c
      other d h e = k.distinct.0 (subst (λ (x : ℕ). In x cs) e h)

      rest : IsContinuation p (with_call set c) t cs
      rest = record {
        distinct = k.distinct.1;
        outside = λ d h. has_other set c d (other d h) ∙ k.outside d (inr h);
        legal = (k.legal.0, k.legal.1.2);
        ordered = λ early b late e a before.
            elim (k.ordered (c ∷ early) b late (ap (λ (l : List ℕ). c ∷ l) e) a before) [
              | inl h ↦ inl (has_still set c a within h)
              | inr (inl q) ↦ inl (rw q (has_same set c within))
              | inr (inr h) ↦ inr h
            ];
      }

  -- a call that can follow, and then a continuation, are one
  pub continuation_join : (set : List Bool) (s : State) (c : ℕ) (cs : List ℕ) (t : State) → length set ≡ length p.calls → IsNext p set s c t → IsContinuation p (with_call set c) t cs → IsContinuation p set s (c ∷ cs)
  continuation_join set s c cs t flags n k = record {
    distinct = (fresh, k.distinct);
    outside = λ d h. elim h [ inl q ↦ rw q n.outside | inr h ↦ outside_rest d h ];
    legal = (k.legal.0, (t, n.step, k.legal.1));
    ordered = λ early b late e a before. elim (begins c cs early b late e) [
      | inl q ↦ inl (n.preceded a (subst (λ (x : ℕ). Before p a x) q.1 before))
      | inr q ↦ elim (k.ordered q.0 b late q.2 a before) [
        | inl h ↦ elim (has_with set c a h) [ inl r ↦ inr (rw (q.1, r) (inl refl)) | inr r ↦ inl r ]
        | inr h ↦ inr (rw q.1 (inr h))
      ]
    ];
  }
    where
      within : c < length set
      within = let h = next_within s t c n.step in omega (arith, flags, h)

      fresh : In c cs → ⊥
      fresh h = let e = k.outside c h in let e' = has_same set c within in cc

      outside_rest : (d : ℕ) → In d cs → has set d ≡ false
      outside_rest d h = elim (same_or_not d c) [
        | inl q ↦ absurd (fresh (subst (λ (x : ℕ). In x cs) q h))
        | inr ne ↦ sym (has_other set c d ne) ∙ k.outside d h
      ]

  -- the empty list is a continuation of every configuration
  pub none_continues : (set : List Bool) (s : State) → IsContinuation p set s []
  none_continues set s = record {
    distinct = tt;
    outside = λ c h. absurd h;
    legal = (s, refl);
    ordered = λ early b late e a before. absurd (no_part early b late e);
  }

  pub completion_split : (set : List Bool) (s : State) (c : ℕ) (cs : List ℕ) → length set ≡ length p.calls → IsCompletion p set s (c ∷ cs) → (t : State) × IsNext p set s c t × IsCompletion p (with_call set c) t cs
  completion_split set s c cs flags k =
      let q = continuation_split set s c cs flags k.continuation in
      let within : c < length set = let h = next_within s q.0 c q.1.step in omega (arith, flags, h) in (
        q.0,
        q.1,
        record {
          continuation = q.2;
          complete = λ d h. elim (k.complete d h) [
            | inl r ↦ inl (has_still set c d within r)
            | inr (inl r) ↦ inl (rw r (has_same set c within))
            | inr (inr r) ↦ inr r
          ];
        },
      )

  pub completion_join : (set : List Bool) (s : State) (c : ℕ) (cs : List ℕ) (t : State) → length set ≡ length p.calls → IsNext p set s c t → IsCompletion p (with_call set c) t cs → IsCompletion p set s (c ∷ cs)
  completion_join set s c cs t flags n k = record {
    continuation = continuation_join set s c cs t flags n k.continuation;
    complete = λ d h. elim (k.complete d h) [
      | inl r ↦ elim (has_with set c d r) [ inl q ↦ inr (inl q) | inr q ↦ inl q ]
      | inr r ↦ inr (inr r)
    ];
  }

  pub none_completes : (set : List Bool) (s : State) → HasEveryCompleted p set → IsCompletion p set s []
  none_completes set s h = record { continuation = none_continues set s; complete = λ c k. inl (h c k) }

  pub complete_none : (set : List Bool) (s : State) → IsCompletion p set s [] → HasEveryCompleted p set
  complete_none set s k c h = elim (k.complete c h) [ inl r ↦ r | inr r ↦ absurd r ]

  -- a call leads to one state
  pub next_one : (set : List Bool) (s : State) (c : ℕ) (t u : State) → IsNext p set s c t → IsNext p set s c u → t ≡ u
  next_one set s c t u a b = let e = a.step in let f = b.step in cc

  -- what begins with a call goes on from the state that the call leads to
  pub tail_continues : (set : List Bool) (s : State) (c : ℕ) (t : State) → length set ≡ length p.calls → IsNext p set s c t → (cs : List ℕ) → IsContinuation p set s (c ∷ cs) → IsContinuation p (with_call set c) t cs
  tail_continues set s c t flags is_next cs k = let n = continuation_split set s c cs flags k in subst (λ (u : State). IsContinuation p (with_call set c) u cs) (next_one set s c n.0 t n.1 is_next) n.2

  pub tail_completes : (set : List Bool) (s : State) (c : ℕ) (t : State) → length set ≡ length p.calls → IsNext p set s c t → (cs : List ℕ) → IsCompletion p set s (c ∷ cs) → IsCompletion p (with_call set c) t cs
  tail_completes set s c t flags is_next cs k = let n = completion_split set s c cs flags k in subst (λ (u : State). IsCompletion p (with_call set c) u cs) (next_one set s c n.0 t n.1 is_next) n.2
