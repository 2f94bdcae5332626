-- A linearization of a problem and then other calls of it, where every pending call has a step.
use Rattle.std.proofs.Common.{◌≡◌, ℕ, ◌<◌, Some, List, [], ◌∷◌, ◌++◌, length, inl, inr, refl, sym, subst, append_assoc, append-nil}
use Rattle.lin_history.specs.Problems.Lists.{In, IsDistinct}
use Rattle.lin_history.specs.Problems.ListLemmas.{has_none, in_early, in_either}
use Rattle.lin_history.specs.Problems.Problem.{Problem}
use Rattle.lin_history.specs.Problems.LegalLists.{next, Legal}
use Rattle.lin_history.specs.Problems.Precedence.{Before, IsCompleted}
use Rattle.lin_history.specs.Problems.Linearizations.{IsLinearization}
use Rattle.lin_history.specs.Locality.OrderLemmas.{KeepsTime, keeps_time, earlier}
use Rattle.lin_decide.specs.Keys.Merging.{IsTotal}
use Rattle.lin_parts.specs.PartLemmas.{completed_of}

module _ {State Op Reply : Type 0} (q : Problem State Op Reply) where
  -- ---- where every pending call has a step

  legal_more : (l : List ℕ) (c : ℕ) (s t u : State) → Legal q s l t → next q t c ≡ Some u → Legal q s (l ++ c ∷ []) u
  legal_more [] c s t u k e = (u, rw k e, refl)
  legal_more (x ∷ xs) c s t u k e = (k.0, k.1, legal_more xs c k.0 t u k.2 e)

  distinct_more : (l : List ℕ) (c : ℕ) → IsDistinct l → (In c l → ⊥) → IsDistinct (l ++ c ∷ [])
  distinct_more [] c d fresh = ((λ h. absurd h), tt)
  distinct_more (x ∷ xs) c d fresh = (
    (λ h. elim (in_either x xs (c ∷ []) h) [ inl a ↦ d.0 a | inr (inl e) ↦ fresh (inl (sym e)) | inr (inr none) ↦ none ]),
    distinct_more xs c d.1 (λ h. fresh (inr h)),
  )

  keeps_more : (l : List ℕ) (c : ℕ) → (IsCompleted q c → ⊥) → KeepsTime q l → KeepsTime q (l ++ c ∷ [])
  keeps_more [] c pending k = ((λ d h before. elim h [ inl e ↦ pending (completed_of q c c (subst (λ (x : ℕ). Before q x c) e before)) | inr none ↦ none ]), tt)
  keeps_more (x ∷ xs) c pending k = (here, keeps_more xs c pending k.1)
    where
      here : (d : ℕ) → In d (x ∷ (xs ++ c ∷ [])) → Before q d x → ⊥
      here d h before = elim (in_either d (x ∷ xs) (c ∷ []) h) [
        | inl a ↦ k.0 d a before
        | inr (inl e) ↦ pending (completed_of q c x (subst (λ (y : ℕ). Before q y x) e before))
        | inr (inr none) ↦ none
      ]

  one_more : IsTotal q → (l : List ℕ) (c : ℕ) → IsLinearization q l → c < length q.calls → (In c l → ⊥) → IsLinearization q (l ++ c ∷ [])
  one_more total l c lin within fresh = record {
    continuation = record {
      distinct = distinct_more l c lin.continuation.distinct fresh;
      outside = λ d h. has_none (length q.calls) d;
      legal = (let n = total l lin.continuation.legal.0 lin.continuation.legal.1 c within pending in (n.0, legal_more l c q.start lin.continuation.legal.0 n.0 lin.continuation.legal.1 n.1));
      ordered = λ early b late e a before. inr (earlier q (l ++ c ∷ []) early b late (keeps_more l c pending (keeps_time q l lin.continuation)) e a before (in_early a l (c ∷ []) (there a (completed_of q a b before))));
    };
    complete = λ a done. inr (in_early a l (c ∷ []) (there a done));
  }
    where
      there : (a : ℕ) → IsCompleted q a → In a l
      there a done = elim (lin.complete a done) [ inl f ↦ absurd (let none = has_none (length q.calls) a in cc) | inr f ↦ f ]

      pending : IsCompleted q c → ⊥
      pending done = fresh (there c done)

  -- A linearization, and then calls that it lacks, is one where every pending call has a step.
  pub full_linearization : IsTotal q → (l rest : List ℕ) → IsLinearization q l → IsDistinct rest → ((c : ℕ) → In c rest → (c < length q.calls) × (In c l → ⊥)) → IsLinearization q (l ++ rest)
  full_linearization total l [] lin d inside = subst (λ (x : List ℕ). IsLinearization q x) (sym (append-nil l)) lin
  full_linearization total l (c ∷ cs) lin d inside =
      let first = inside c (inl refl) in
      subst (λ (x : List ℕ). IsLinearization q x) (append_assoc l (c ∷ []) cs)
      (full_linearization total (l ++ c ∷ []) cs (one_more total l c lin first.0 first.1) d.1 (λ b h. ((inside b (inr h)).0, λ there. elim (in_either b l (c ∷ []) there) [ inl a ↦ (inside b (inr h)).1 a | inr (inl e) ↦ d.0 (subst (λ (x : ℕ). In x cs) e h) | inr (inr none) ↦ none ])))
