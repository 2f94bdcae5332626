-- A push that crosses a call: there is no linearization.
use Rattle.std.proofs.Common.{◌≡◌, ℕ, ◌<◌, Bool, true, false, Some, List, [], ◌∷◌, ◌++◌, length, ◌⊎◌, inl, inr, refl, sym, subst, arith}
use Rattle.std.specs.Prelude.{slice_get, IsSomeAnd}
use Rattle.std.proofs.lemmas.List.{length-set, length-replicate}
use Rattle.lin_object.specs.declared.op.Op.{Op}
use Rattle.lin_object.specs.declared.reply.Reply.{Reply}
use Rattle.lin_object.specs.declared.state.ObjState.{ObjState}
use Rattle.lin_history.specs.declared.problems.problem.ProblemCall.{ProblemCall}
use Rattle.lin_history.specs.OptionLemmas.{some_and}
use Rattle.lin_history.specs.Problems.Problem.{Problem}
use Rattle.lin_history.specs.Problems.Lists.{In}
use Rattle.lin_history.specs.Problems.ListLemmas.{in_early}
use Rattle.lin_history.specs.Problems.LegalLists.{Legal}
use Rattle.lin_history.specs.Problems.Precedence.{Before, IsCompleted}
use Rattle.lin_history.specs.Problems.Continuations.{has, no_calls}
use Rattle.lin_history.specs.Problems.Linearizations.{IsRun, IsLinearization}
use Rattle.lin_search.specs.CallSet.{with_call, with_calls}
use Rattle.lin_search.specs.CallSetLemmas.{no_calls_has, true_or_false, has_same, has_with, has_still}
use Rattle.lin_search.specs.FirstCallLemmas.{next_within}
use Rattle.lin_ahead.specs.declared.items.late_pushes.LateRows.{LateRows}
use Rattle.lin_ahead.specs.Items.Late.{NoneIsLate, FindsUnder, IsCrossed}
use Rattle.lin_ahead.proofs.first.NeedsLemmas.{not_before, stands}

-- ---- the set of a list of calls

has_in : (l : List ℕ) (set : List Bool) (c : ℕ) → has (with_calls set l) c ≡ true → In c l ⊎ (has set c ≡ true)
has_in [] set c e = inr e
has_in (d ∷ l) set c e = elim (has_in l (with_call set d) c e) [
  | inl q ↦ inl (inr q)
  | inr q ↦ elim (has_with set d c q) [ inl r ↦ inl (inl r) | inr r ↦ inr r ]
]

still_has : (l : List ℕ) (set : List Bool) → ((d : ℕ) → In d l → d < length set) → (c : ℕ) → has set c ≡ true → has (with_calls set l) c ≡ true
still_has [] set within c e = e
still_has (d ∷ l) set within c e =
    still_has l (with_call set d) (λ x h. let k = length-set set d true in let n = within x (inr h) in omega (arith, k, n)) c (has_still set d c (within d (inl refl)) e)

in_has : (l : List ℕ) (set : List Bool) → ((d : ℕ) → In d l → d < length set) → (c : ℕ) → In c l → has (with_calls set l) c ≡ true
in_has [] set within c h = absurd h
in_has (d ∷ l) set within c h =
    let more : (x : ℕ) → In x l → x < length (with_call set d) = λ x h. (let k = length-set set d true in let n = within x (inr h) in omega (arith, k, n)) in
    elim h [
      | inl e ↦ subst (λ (x : ℕ). has (with_calls (with_call set d) l) x ≡ true) (sym e) (still_has l (with_call set d) more d (has_same set d (within d (inl refl))))
      | inr q ↦ in_has l (with_call set d) more c q
    ]

module _ {State Op Reply : Type 0} (p : Problem State Op Reply) where
  -- the calls of a legal list are calls of the problem
  legal_within : (l : List ℕ) (s t : State) → Legal p s l t → (d : ℕ) → In d l → d < length p.calls
  legal_within [] s t k d h = absurd h
  legal_within (c ∷ l) s t (m, step, more) d h = elim h [
    | inl e ↦ subst (λ (x : ℕ). x < length p.calls) (sym e) (next_within p s m c step)
    | inr q ↦ legal_within l m t more d q
  ]

  -- the set has what stands in the run, and nothing else
  pub set_of_run : (l : List ℕ) → ((d : ℕ) → In d l → d < length p.calls) → (c : ℕ) → (has (with_calls (no_calls p) l) c ≡ true → In c l) × (In c l → has (with_calls (no_calls p) l) c ≡ true)
  set_of_run l within c = (
    λ e. elim (has_in l (no_calls p) c e) [ inl q ↦ q | inr q ↦ absurd (let none = no_calls_has (length p.calls) c in cc) ],
    in_has l (no_calls p) (λ d h. let k = length-replicate (length p.calls) false in let n = within d h in omega (arith, k, n)) c,
  )

  -- a call that precedes another is completed
  pub before_completed : (a b : ℕ) → Before p a b → IsCompleted p a
  before_completed a b before =
      let k = some_and (slice_get p.calls a) (λ (x : ProblemCall Op Reply). IsSomeAnd x.returned (λ r. IsSomeAnd (slice_get p.calls b) (λ y. r.0 < y.called))) before in
      let r = some_and k.0.returned (λ (r : ℕ × Reply). IsSomeAnd (slice_get p.calls b) (λ y. r.0 < y.called)) k.2 in
      rw (k.1, r.1) refl

-- a push that crosses a call is late wherever it stands, and it stands in each linearization
pub crossed_in_vain : (p : Problem ObjState Op Reply) (late : LateRows) → NoneIsLate p late → (b : ℕ) → IsCrossed p late b → (l : List ℕ) → IsLinearization p l → ⊥
crossed_in_vain p late never b (z, m, before, returns, popped, under) l whole =
    never l early rest b set whole at.2 members (m, (z, (outside, returns), deadline under), ([], popped))
  where
    at : (early : List ℕ) × (rest : List ℕ) × (l ≡ early ++ b ∷ rest)
    at = stands l b whole (before_completed p b z before)

    early : List ℕ
    early = at.0

    rest : List ℕ
    rest = at.1

    run : IsRun p (early ++ b ∷ rest)
    run = subst (λ (k : List ℕ). IsRun p k) at.2 whole.continuation

    set : List Bool
    set = with_calls (no_calls p) early

    members : (c : ℕ) → (has set c ≡ true → In c early) × (In c early → has set c ≡ true)
    members = set_of_run p early (λ d h. legal_within p (early ++ b ∷ rest) p.start run.legal.0 run.legal.1 d (in_early d early (b ∷ rest) h))

    outside : has set z ≡ false
    outside = elim (true_or_false (has set z)) [
      | inl e ↦ absurd (not_before early b rest run z before ((members z).0 e))
      | inr e ↦ e
    ]

    inside : (a : ℕ) → Before p a b → has set a ≡ true
    inside a first = elim (run.ordered early b rest refl a first) [
      | inl e ↦ absurd (let none = no_calls_has (length p.calls) a in cc)
      | inr h ↦ (members a).1 h
    ]

    deadline : FindsUnder p late b z → (slice_get late.found_empty.items z ≡ Some true) ⊎ ((a : ℕ) × (slice_get late.poppers.items a ≡ Some (Some z)) × ((a ≡ b) ⊎ (has set a ≡ true)))
    deadline (inl empty) = inl empty
    deadline (inr (a, there, first)) = inr (a, there, inr (inside a first))
