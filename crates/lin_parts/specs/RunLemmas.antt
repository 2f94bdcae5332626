-- Parts of legal lists and of runs.
use Rattle.std.proofs.Common.{◌≡◌, ℕ, ◌<◌, List, [], ◌∷◌, ◌++◌, length, inl, inr, refl, arith}
use Rattle.std.specs.Prelude.{IsSomeAnd}
use Rattle.std.specs.List.{slice_get}
use Rattle.std.proofs.lemmas.Option.{slice_get_cases}
use Rattle.lin_history.specs.OptionLemmas.{some_and, and_some, some_more}
use Rattle.lin_history.specs.Problems.Lists.{In}
use Rattle.lin_history.specs.Problems.ListLemmas.{has_none}
use Rattle.lin_history.specs.Problems.Problem.{Problem}
use Rattle.lin_history.specs.Problems.ProblemParts.{AreTimed}
use Rattle.lin_history.specs.Problems.LegalLists.{Legal}
use Rattle.lin_history.specs.Problems.Precedence.{Before}
use Rattle.lin_history.specs.Problems.Linearizations.{IsRun}

module _ {State Op Reply : Type 0} (p : Problem State Op Reply) where
  -- ---- the front of a run

  pub legal_front : (xs ys : List ℕ) (s t : State) → Legal p s (xs ++ ys) t → (u : State) × Legal p s xs u
  legal_front [] ys s t k = (s, refl)
  legal_front (x ∷ xs) ys s t k = let r = legal_front xs ys k.0 t k.2 in (r.0, (k.0, k.1, r.1))

  -- what precedes a call of a run stands in it, in front of the call
  pub run_before : (l : List ℕ) → IsRun p l → (early : List ℕ) (b : ℕ) (late : List ℕ) → l ≡ early ++ b ∷ late → (a : ℕ) → Before p a b → In a early
  run_before l k early b late e a before = elim (k.ordered early b late e a before) [
    | inl h ↦ absurd (let none = has_none (length p.calls) a in cc)
    | inr h ↦ h
  ]

  module _ (timed : AreTimed p.calls) where
    -- what precedes a call precedes those called later
    pub before_later : (a j k : ℕ) → j < k → k < length p.calls → Before p a j → Before p a k
    before_later a j k less within before =
        some_more (slice_get p.calls a) _ _ (λ x h. some_more x.returned _ _ (λ r q. here r.0 q) h) before
      where
        here : (n : ℕ) → IsSomeAnd (slice_get p.calls j) (λ y. n < y.called) → IsSomeAnd (slice_get p.calls k) (λ y. n < y.called)
        here n h =
            let y = some_and (slice_get p.calls j) _ h in
            elim (slice_get_cases p.calls k).1 [
              | inl there ↦ and_some (slice_get p.calls k) (λ x. n < x.called) there.0 there.2 (let later = timed.called j k y.0 there.0 less y.1 there.2 in let below = y.2 in omega (arith, later, below))
              | inr none ↦ absurd (let e = none.0 in omega (arith, e, within))
            ]
