-- Lists of calls that took away what some calls made.
use Rattle.std.proofs.Common.{◌≡◌, ℕ, zero, suc, ◌+◌, ◌<◌, Some, List, [], ◌∷◌, ◌++◌, ◌⊎◌, inl, inr, sym, subst, arith}
use Rattle.std.specs.Prelude.{slice_get, IsSomeAnd}
use Rattle.lin_object.specs.declared.op.Op.{Op}
use Rattle.lin_object.specs.declared.reply.Reply.{Reply}
use Rattle.lin_history.specs.declared.problems.problem.ProblemCall.{ProblemCall}
use Rattle.lin_history.specs.Problems.Lists.{In, IsDistinct}
use Rattle.lin_history.specs.Problems.ListLemmas.{in_either}
use Rattle.lin_ahead.specs.declared.values.owners.Owners.{Owners}
use Rattle.lin_ahead.specs.Values.Balance.{TakesFromMakers}

-- what stands at a place of a list is in it
pub in_at : (makers : List ℕ) (place call : ℕ) → IsSomeAnd (slice_get makers place) (λ c. c ≡ call) → In call makers
in_at [] place call at = absurd at
in_at (c ∷ cs) zero call at = inl (sym at)
in_at (c ∷ cs) (suc place) call at = inr (in_at cs place call at)

distinct_pushed : (xs : List ℕ) (x : ℕ) → IsDistinct xs → (In x xs → ⊥) → IsDistinct (xs ++ x ∷ [])
distinct_pushed [] x distinct none = ((λ h. h), tt)
distinct_pushed (y ∷ ys) x distinct none = (
  λ h. elim (in_either y ys (x ∷ []) h) [
    | inl q ↦ distinct.0 q
    | inr (inl e) ↦ none (inl (sym e))
    | inr (inr q) ↦ q
  ],
  distinct_pushed ys x distinct.1 (λ h. none (inr h)),
)

module _ (calls : List (ProblemCall Op Reply)) (rows : List Owners) (makers : List ℕ) where
  -- these are takers among the first calls, so many
  pub record AreTakersTo (count : ℕ) (takers : List ℕ) : Type 0 where
    pub distinct : IsDistinct takers
    pub each : (g : ℕ) → In g takers → (g < count) × TakesFromMakers calls rows makers g

  pub taker_more : (count : ℕ) (takers : List ℕ) → TakesFromMakers calls rows makers count → AreTakersTo count takers → AreTakersTo (count + 1) (takers ++ count ∷ [])
  taker_more count takers takes k = record {
    distinct = distinct_pushed takers count k.distinct (λ there. (let less = (k.each count there).0 in omega (arith, less)));
    each = λ g there. elim (in_either g takers (count ∷ []) there) [
      | inl q ↦ (let m = k.each g q in ((let less = m.0 in omega (arith, less)), m.1))
      | inr (inl e) ↦ (omega (arith, e), subst (λ (n : ℕ). TakesFromMakers calls rows makers n) (sym e) takes)
      | inr (inr q) ↦ absurd q
    ];
  }

  pub taker_same : (count : ℕ) (takers : List ℕ) → AreTakersTo count takers → AreTakersTo (count + 1) takers
  taker_same count takers k = record {
    distinct = k.distinct;
    each = λ g there. (let m = k.each g there in ((let less = m.0 in omega (arith, less)), m.1));
  }
