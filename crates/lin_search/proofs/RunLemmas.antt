-- The first of the longest runs, call by call.
use Rattle.std.proofs.Common.{◌≡◌, ℕ, suc, ◌+◌, ◌<◌, ◌≤◌, Bool, true, Some, None, List, [], ◌∷◌, ◌++◌, length, ◌⊎◌, inl, inr, refl, sym, ap, subst, arith, append_assoc, append-nil}
use Rattle.lin_history.specs.Problems.Problem.{Problem}
use Rattle.lin_history.specs.Problems.Lists.{IsLongest, IsUpTo, first_of}
use Rattle.lin_history.specs.Problems.Continuations.{IsContinuation, IsCompletion}
use Rattle.lin_search.specs.CallSet.{with_call}
use Rattle.lin_search.specs.NextCall.{IsNext}
use Rattle.lin_search.specs.LongestRun.{IsFirstLongest}
use Rattle.lin_search.specs.FirstCallLemmas.{continuation_split, continuation_join, completion_join, tail_continues}
use Rattle.lin_search.specs.AlikeLemmas.{AreAlike, turned, like_continuation}

-- a longest list with no first call is empty
pub none_left : (P : List ℕ → Type 0) (more : ℕ) → P [] → IsLongest P more None → IsFirstLongest P []
none_left P more there k = record {
  holds = there;
  greatest = λ m h. (let q = k.greatest m h in let e = empty k.there.0 more k.there.2 k.there.3 in omega (arith, q, e));
  least = λ m h e. tt;
}
  where
    empty : (l : List ℕ) (more : ℕ) → length l ≡ more → first_of l ≡ None → more ≡ 0
    empty [] more e f = sym e
    empty (c ∷ cs) more e f = absurd (cc)

module _ {State Op Reply : Type 0} (p : Problem State Op Reply) (set : List Bool) (s : State) (flags : length set ≡ length p.calls) where
  begins_with : (l : List ℕ) (c : ℕ) → first_of l ≡ Some c → (cs : List ℕ) × (l ≡ c ∷ cs)
  begins_with [] c e = absurd (cc)
  begins_with (d ∷ ds) c e = (ds, (let q : d ≡ c = cc in ap (λ (x : ℕ). x ∷ ds) q))

  pub first_next : (more c : ℕ) → IsLongest (IsContinuation p set s) more (Some c) → (t : State) × IsNext p set s c t
  first_next more c k =
      let b = begins_with k.there.0 c k.there.3 in
      let q = continuation_split p set s c b.0 flags (subst (λ (l : List ℕ). IsContinuation p set s l) b.1 k.there.1) in
      (q.0, q.1)

  module _ (c : ℕ) (t : State) (is_next : IsNext p set s c t) where
    -- the longest continuation begins with that call, and goes on with the longest after it
    pub longest_step : (more : ℕ) → IsLongest (IsContinuation p set s) more (Some c) → (m : List ℕ) → IsFirstLongest (IsContinuation p (with_call set c) t) m → IsFirstLongest (IsContinuation p set s) (c ∷ m)
    longest_step more k m best = record {
      holds = continuation_join p set s c m t flags is_next best.holds;
      greatest = λ l h. (let n = k.greatest l h in omega (arith, n, fits));
      least = least;
    }
      where
        fits : more ≤ length m + 1
        fits =
            let b = begins_with k.there.0 c k.there.3 in
            let n = best.greatest b.0 (tail_continues p set s c t flags is_next b.0 (subst (λ (l : List ℕ). IsContinuation p set s l) b.1 k.there.1)) in
            let e : length k.there.0 ≡ suc (length b.0) = ap length b.1 in
            let f = k.there.2 in
            omega (arith, n, e, f)

        order : (c d : ℕ) → c ≤ d → (c < d) ⊎ (c ≡ d)
        order c d h = grind arith

        least : (l : List ℕ) → IsContinuation p set s l → length l ≡ length (c ∷ m) → IsUpTo (c ∷ m) l
        least [] h e = absurd (omega (arith, e))
        least (d ∷ ds) h e =
            let n = k.greatest (d ∷ ds) h in
            let all : length (d ∷ ds) ≡ more = omega (arith, n, e, fits) in
            elim (order c d (k.least (d ∷ ds) h all c d refl refl)) [
              | inl q ↦ inl q
              | inr q ↦ inr (q, best.least ds (tail_continues p set s c t flags is_next ds (subst (λ (x : ℕ). IsContinuation p set s (x ∷ ds)) (sym q) h)) (omega (arith, e)))
            ]

    -- no completion after the call, where there is none before it
    pub none_after : ((l : List ℕ) → IsCompletion p set s l → ⊥) → (l : List ℕ) → IsCompletion p (with_call set c) t l → ⊥
    none_after none l k = none (c ∷ l) (completion_join p set s c l t flags is_next k)

module _ {State Op Reply : Type 0} {p : Problem State Op Reply} (alike : AreAlike p p) where
  pub alike_first : (set : List Bool) (s t : State) (l : List ℕ) → p.same_state s t ≡ true → IsFirstLongest (IsContinuation p set s) l → IsFirstLongest (IsContinuation p set t) l
  alike_first set s t l same k = record {
    holds = like_continuation alike.there set s t l same k.holds;
    greatest = λ m h. k.greatest m (like_continuation alike.back set t s m (turned alike s t same) h);
    least = λ m h e. k.least m (like_continuation alike.back set t s m (turned alike s t same) h) e;
  }

pub rest_next : (P : List ℕ → Type 0) (calls new m : List ℕ) (c : ℕ) → new ≡ calls ++ c ∷ [] → P (calls ++ c ∷ m) → P (new ++ m)
rest_next P calls new m c e k = rw (e, append_assoc calls (c ∷ []) m) k

pub rest_none : (P : List ℕ → Type 0) (calls : List ℕ) → P (calls ++ []) → P calls
rest_none P calls k = subst P (append-nil calls) k
