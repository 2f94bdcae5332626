-- Lists of calls that are equal call by call, beside what is at each index.
use Rattle.std.proofs.Common.{◌≡◌, ℕ, zero, suc, ◌<◌, Bool, Option, Some, None, List, [], ◌∷◌, length, refl, ap, arith}
use Rattle.std.specs.List.{slice_get}
use Rattle.lin_history.specs.declared.problems.problem.ProblemCall.{ProblemCall}
use Rattle.lin_history.specs.Problems.SameProblem.{SameCall, SameCalls}

-- Two reads of a list: both past the end, or equal calls.
abbrev pub SameRead : {Op Reply : Type 0} → (Op → Op → Bool) → (Reply → Reply → Bool) → Option (ProblemCall Op Reply) → Option (ProblemCall Op Reply) → Type 0
SameRead same_op same_reply None None = Unit {0}
SameRead same_op same_reply (Some a) (Some b) = SameCall same_op same_reply a b
SameRead same_op same_reply None (Some b) = ⊥
SameRead same_op same_reply (Some a) None = ⊥

module _ {Op Reply : Type 0} (same_op : Op → Op → Bool) (same_reply : Reply → Reply → Bool) where
  pub same_by_index : (xs ys : List (ProblemCall Op Reply)) → length xs ≡ length ys → ((k : ℕ) → k < length xs → SameRead same_op same_reply (slice_get xs k) (slice_get ys k)) → SameCalls same_op same_reply xs ys
  same_by_index [] [] e h = tt
  same_by_index (x ∷ xs) (y ∷ ys) e h = (h 0 (omega arith), same_by_index xs ys (omega (arith, e)) (λ k b. h (suc k) (omega arith)))
  same_by_index [] (y ∷ ys) e h = absurd (omega (arith, e))
  same_by_index (x ∷ xs) [] e h = absurd (omega (arith, e))

  pub same_at : (xs ys : List (ProblemCall Op Reply)) (k : ℕ) → SameCalls same_op same_reply xs ys → SameRead same_op same_reply (slice_get xs k) (slice_get ys k)
  same_at [] [] k s = tt
  same_at (x ∷ xs) (y ∷ ys) zero s = s.0
  same_at (x ∷ xs) (y ∷ ys) (suc k) s = same_at xs ys k s.1
  same_at [] (y ∷ ys) k s = absurd s
  same_at (x ∷ xs) [] k s = absurd s

  pub same_length : (xs ys : List (ProblemCall Op Reply)) → SameCalls same_op same_reply xs ys → length xs ≡ length ys
  same_length [] [] s = refl
  same_length (x ∷ xs) (y ∷ ys) s = ap suc (same_length xs ys s.1)
  same_length [] (y ∷ ys) s = absurd s
  same_length (x ∷ xs) [] s = absurd s
