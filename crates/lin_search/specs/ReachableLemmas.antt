-- The root is reachable, and so is what a call leads to from a reachable configuration.
use Rattle.std.proofs.Common.{◌≡◌, ℕ, ◌<◌, Bool, true, false, Some, List, [], ◌∷◌, ◌++◌, length, ◌⊎◌, inl, inr, refl, sym, ◌∙◌, ap, subst, arith}
use Rattle.lin_history.specs.Problems.Problem.{Problem}
use Rattle.lin_history.specs.Problems.Lists.{In, IsDistinct}
use Rattle.lin_history.specs.Problems.LegalLists.{next, Legal}
use Rattle.lin_history.specs.Problems.Precedence.{Before}
use Rattle.lin_history.specs.Problems.Continuations.{has, no_calls}
use Rattle.lin_history.specs.Problems.Linearizations.{IsRun}
use Rattle.lin_history.specs.Problems.Configurations.{IsReachable}
use Rattle.lin_search.specs.CallSet.{with_call}
use Rattle.lin_search.specs.CallSetLemmas.{no_calls_has, has_same, has_with, has_still}
use Rattle.lin_search.specs.NextCall.{IsNext}
use Rattle.lin_search.specs.FirstCallLemmas.{next_within, no_part, none_continues}
use Rattle.lin_search.specs.AlikeLemmas.{AreAlike, turned}
use Rattle.std.proofs.lemmas.List.{length-set, length-replicate}

In_end : (l : List ℕ) (c : ℕ) → In c (l ++ c ∷ [])
In_end [] c = inl refl
In_end (d ∷ l) c = inr (In_end l c)

In_more : (l : List ℕ) (c d : ℕ) → In d l → In d (l ++ c ∷ [])
In_more [] c d h = absurd h
In_more (e ∷ l) c d h = elim h [ inl q ↦ inl q | inr q ↦ inr (In_more l c d q) ]

In_split : (l : List ℕ) (c d : ℕ) → In d (l ++ c ∷ []) → In d l ⊎ (d ≡ c)
In_split [] c d h = elim h [ inl q ↦ inr q | inr q ↦ absurd q ]
In_split (e ∷ l) c d h = elim h [ inl q ↦ inl (inl q) | inr q ↦ elim (In_split l c d q) [ inl r ↦ inl (inr r) | inr r ↦ inr r ] ]

distinct_end : (l : List ℕ) (c : ℕ) → IsDistinct l → (In c l → ⊥) → IsDistinct (l ++ c ∷ [])
distinct_end [] c k fresh = (λ h. h, tt)
distinct_end (d ∷ l) c k fresh =
    (λ h. elim (In_split l c d h) [ inl q ↦ k.0 q | inr q ↦ fresh (inl (sym q)) ], distinct_end l c k.1 (λ h. fresh (inr h)))

-- a place in l and then c: it is in l, or it is c
place_at_end : (l : List ℕ) (c : ℕ) (early : List ℕ) (b : ℕ) (late : List ℕ) → l ++ c ∷ [] ≡ early ++ b ∷ late → ((rest : List ℕ) × (l ≡ early ++ b ∷ rest)) ⊎ ((early ≡ l) × (b ≡ c))
place_at_end [] c [] b late e = inr (refl, cc)
place_at_end [] c (d ∷ early) b late e = absurd (no_part early b late (tails e))
  where
    tails : c ∷ [] ≡ d ∷ (early ++ b ∷ late) → [] ≡ early ++ b ∷ late
    tails e = cc
place_at_end (x ∷ l) c [] b late e = inl (l, (let h : x ≡ b = cc in ap (λ (y : ℕ). y ∷ l) h))
place_at_end (x ∷ l) c (d ∷ early) b late e =
    let h : x ≡ d = cc in
    let tail : l ++ c ∷ [] ≡ early ++ b ∷ late = cc in
    elim (place_at_end l c early b late tail) [
      | inl q ↦ (let r = q.1 in inl (q.0, cc))
      | inr q ↦ (let r = q.0 in inr (cc, q.1))
    ]

module _ {State Op Reply : Type 0} (p : Problem State Op Reply) where
  legal_end : (l : List ℕ) (s t u : State) (c : ℕ) → Legal p s l t → next p t c ≡ Some u → Legal p s (l ++ c ∷ []) u
  legal_end [] s t u c k e = (u, subst (λ (x : State). next p x c ≡ Some u) (sym k) e, refl)
  legal_end (d ∷ l) s t u c k e = (k.0, k.1, legal_end l k.0 t u c k.2 e)

  -- the configuration with no call, at a state equal to the start
  pub reachable_root : (s : State) → p.same_state p.start s ≡ true → IsReachable p (no_calls p) s
  reachable_root s same = record {
    flags = length-replicate (length p.calls) false;
    run = ([], none_continues p (no_calls p) p.start, λ c. (λ h. absurd (let e = no_calls_has (length p.calls) c in cc), λ h. absurd h), (p.start, refl, same));
  }

  -- a call that can follow a reachable configuration leads to a reachable one
  pub reachable_child : AreAlike p p → (set : List Bool) (s : State) (c : ℕ) (t : State) → IsReachable p set s → IsNext p set s c t → IsReachable p (with_call set c) t
  reachable_child alike set s c t k n = record {
    flags = length-set set c true ∙ k.flags;
    run = (l ++ c ∷ [], run, members, (last.0, legal_end l p.start e last.0 c legal last.1, turned alike t last.0 last.2));
  }
    where
      l : List ℕ
      l = k.run.0

      is_run : IsRun p l
      is_run = k.run.1

      e : State
      e = k.run.3.0

      legal : Legal p p.start l e
      legal = k.run.3.1

      same : p.same_state s e ≡ true
      same = turned alike e s k.run.3.2

      last : (v : State) × (next p e c ≡ Some v) × (p.same_state t v ≡ true)
      last = alike.there.steps s e t c same n.step

      within : c < length set
      within = let h = next_within p s t c n.step in let f = k.flags in omega (arith, h, f)

      fresh : In c l → ⊥
      fresh h = let x = (k.run.2 c).1 h in let y = n.outside in cc

      run : IsRun p (l ++ c ∷ [])
      run = record {
        distinct = distinct_end l c is_run.distinct fresh;
        outside = λ d h. no_calls_has (length p.calls) d;
        legal = (last.0, legal_end l p.start e last.0 c legal last.1);
        ordered = λ early b late eq a before. elim (place_at_end l c early b late eq) [
          | inl q ↦ is_run.ordered early b q.0 q.1 a before
          | inr q ↦ inr (subst (λ (m : List ℕ). In a m) (sym q.0) ((k.run.2 a).0 (n.preceded a (subst (λ (x : ℕ). Before p a x) q.1 before))))
        ];
      }

      members : (d : ℕ) → (has (with_call set c) d ≡ true → In d (l ++ c ∷ [])) × (In d (l ++ c ∷ []) → has (with_call set c) d ≡ true)
      members d = (
        λ h. elim (has_with set c d h) [ inl q ↦ subst (λ (x : ℕ). In x (l ++ c ∷ [])) (sym q) (In_end l c) | inr q ↦ In_more l c d ((k.run.2 d).0 q) ],
        λ h. elim (In_split l c d h) [ inl q ↦ has_still set c d within ((k.run.2 d).1 q) | inr q ↦ subst (λ (x : ℕ). has (with_call set c) x ≡ true) (sym q) (has_same set c within) ],
      )
