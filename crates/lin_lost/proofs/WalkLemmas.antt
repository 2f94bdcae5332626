-- The walk over a list of calls, as its loops go through it.
use Rattle.std.proofs.Common.{◌≡◌, ℕ, zero, suc, ◌+◌, ◌<◌, ◌≤◌, Bool, true, false, Some, List, [], ◌∷◌, ◌++◌, length, take, get_or, set, ◌⊎◌, inl, inr, refl, sym, ◌∙◌, ap, subst, arith}
use Rattle.std.specs.Prelude.{IsSomeAnd, slice_get}
use Rattle.lin_history.specs.declared.problems.problem.ProblemCall.{ProblemCall}
use Rattle.lin_history.specs.OptionLemmas.{some_and, some_more, and_some}
use Rattle.lin_history.specs.Problems.Lists.{In, IsDistinct}
use Rattle.lin_history.specs.Problems.ListLemmas.{has_none, in_either}
use Rattle.lin_history.specs.Problems.Problem.{Problem}
use Rattle.lin_history.specs.Problems.LegalLists.{next, Legal}
use Rattle.lin_history.specs.Problems.Precedence.{Before, IsCompleted}
use Rattle.lin_history.specs.Problems.Linearizations.{IsLinearization}
use Rattle.lin_history.specs.Locality.OrderLemmas.{KeepsTime, earlier}
use Rattle.lin_parts.specs.PartLemmas.{completed_of, index_in}
use Rattle.std.proofs.Math.ListN.{length-set}
use Rattle.std.proofs.lemmas.Option.{same_Some}
use Rattle.lin_parts.specs.ListLemmas.{take_one, flag_more, flag_set, in_at, last_or}
use Rattle.lin_lost.proofs.StepLemmas.{clash}

-- ---- distinct calls

distinct_more : (l : List ℕ) (c : ℕ) → IsDistinct l → (In c l → ⊥) → IsDistinct (l ++ c ∷ [])
distinct_more [] c d fresh = ((λ h. h), tt)
distinct_more (x ∷ xs) c d fresh = (
  (λ h. elim (in_either x xs (c ∷ []) h) [ inl old ↦ d.0 old | inr (inl same) ↦ fresh (inl (sym same)) | inr (inr none) ↦ none ]),
  distinct_more xs c d.1 (λ h. fresh (inr h)),
)

-- so many calls of the list are distinct and below n, and have their flags
pub record AreFlagged (flags : List Bool) (l : List ℕ) (n i : ℕ) : Type 0 where
  pub count : length flags ≡ n
  pub distinct : IsDistinct (take i l)
  pub set : (k : ℕ) → get_or flags k false ≡ true → In k l
  pub each : (k : ℕ) → In k (take i l) → k < n → get_or flags k false ≡ true

pub one_more : (flags : List Bool) (l : List ℕ) (n i : ℕ) → i < length l → get_or l i 0 < n → get_or flags (get_or l i 0) false ≡ false → AreFlagged flags l n i → AreFlagged (set flags (get_or l i 0) true) l n (i + 1)
one_more flags l n i h within unset k = record {
  count = length-set flags (get_or l i 0) true ∙ k.count;
  distinct = subst IsDistinct (sym (take_one l i h)) (distinct_more (take i l) (get_or l i 0) k.distinct (λ there. clash (k.each (get_or l i 0) there within) unset));
  set = flag_set flags (get_or l i 0) l (in_at l i h) k.set;
  each = flag_more flags l i n k.count h within k.each;
}

-- ---- a legal list

legal_more : {State Op Reply : Type 0} (p : Problem State Op Reply) (l : List ℕ) (s t u : State) (c : ℕ) → Legal p s l t → next p t c ≡ Some u → Legal p s (l ++ c ∷ []) u
legal_more p [] s t u c k n = (u, subst (λ x. next p x c ≡ Some u) (sym k) n, refl)
legal_more p (x ∷ xs) s t u c k n = (k.0, k.1, legal_more p xs k.0 t u c k.2 n)

pub legal_one : {State Op Reply : Type 0} (p : Problem State Op Reply) (l : List ℕ) (i : ℕ) (s t u : State) → i < length l → Legal p s (take i l) t → next p t (get_or l i 0) ≡ Some u → Legal p s (take (i + 1) l) u
legal_one p l i s t u h k n = subst (λ m. Legal p s m u) (sym (take_one l i h)) (legal_more p (take i l) s t u (get_or l i 0) k n)

-- ---- the order of real time

module _ {State Op Reply : Type 0} (p : Problem State Op Reply) where
  -- of so many calls of the list none precedes one that comes before it, or itself; and none was called after the event
  pub record AreInTime (l : List ℕ) (i greatest : ℕ) : Type 0 where
    pub time : (a b : ℕ) → a ≤ b → b < i → Before p (get_or l b 0) (get_or l a 0) → ⊥
    pub called : (a : ℕ) (x : ProblemCall Op Reply) → a < i → slice_get p.calls (get_or l a 0) ≡ Some x → x.called ≤ greatest

  pub time_one : (l : List ℕ) (i old new : ℕ) (x : ProblemCall Op Reply) → slice_get p.calls (get_or l i 0) ≡ Some x → old ≤ new → x.called ≤ new → (IsSomeAnd x.returned (λ r. r.0 < new) → ⊥) → AreInTime l i old → AreInTime l (i + 1) new
  time_one l i old new x at more up late k = record {
    time = λ a b less h before. elim (last_or b i h) [
      | inl early ↦ k.time a b less early before
      | inr same ↦ late (
          let first = some_and (slice_get p.calls (get_or l b 0)) _ before in
          let is : first.0 ≡ x = same_Some first.0 x (sym first.1 ∙ ap (λ (j : ℕ). slice_get p.calls (get_or l j 0)) same ∙ at) in
          subst (λ (y : ProblemCall Op Reply). IsSomeAnd y.returned (λ r. r.0 < new)) is
          (some_more first.0.returned _ _ (λ r q. (let y = some_and (slice_get p.calls (get_or l a 0)) _ q in let low = called_by a y.0 (omega (arith, less, h)) y.1 in let up = y.2 in omega (arith, low, up))) first.2)
          )
    ];
    called = called_by;
  }
    where
      called_by : (a : ℕ) (y : ProblemCall Op Reply) → a < i + 1 → slice_get p.calls (get_or l a 0) ≡ Some y → y.called ≤ new
      called_by a y h there = elim (last_or a i h) [
        | inl early ↦ (let low = k.called a y early there in omega (arith, low, more))
        | inr same ↦ subst (λ (z : ProblemCall Op Reply). z.called ≤ new) (same_Some x y (sym at ∙ ap (λ (j : ℕ). slice_get p.calls (get_or l j 0)) (sym same) ∙ there)) up
      ]

  keeps_from : (l : List ℕ) → ((a b : ℕ) → a ≤ b → b < length l → Before p (get_or l b 0) (get_or l a 0) → ⊥) → KeepsTime p l
  keeps_from [] h = tt
  keeps_from (c ∷ cs) h = (
    (λ d there before. let at = index_in (c ∷ cs) d there in h 0 at.0 (omega arith) at.1 (subst (λ (e : ℕ). Before p e c) (sym at.2) before)),
    keeps_from cs (λ a b less within. h (suc a) (suc b) (omega (arith, less)) (omega (arith, within))),
  )

  pub all_in_time : (l : List ℕ) (i greatest : ℕ) → length l ≤ i → AreInTime l i greatest → KeepsTime p l
  all_in_time l i greatest end k = keeps_from l (λ a b less within. k.time a b less (omega (arith, end, within)))

  -- all together
  pub are_linearization : (l : List ℕ) (flags : List Bool) → IsDistinct l → ((c : ℕ) → get_or flags c false ≡ true → In c l) → ((c : ℕ) → IsCompleted p c → get_or flags c false ≡ true) → KeepsTime p l → ((t : State) × Legal p p.start l t) → IsLinearization p l
  are_linearization l flags distinct set each time legal = record {
    continuation = record {
      distinct = distinct;
      outside = λ c h. has_none (length p.calls) c;
      legal = legal;
      ordered = λ early b late e a before. inr (earlier p l early b late time e a before (set a (each a (completed_of p a b before))));
    };
    complete = λ c done. inr (set c (each c done));
  }
