-- Problems that are equal in every part, each by its type's own `Eq`.
use Rattle.std.specs.Prelude.{◌≡◌, ℕ, Bool, true, Option, Some, None, List, [], ◌∷◌}
use Rattle.lin_history.specs.declared.problems.problem.ProblemCall.{ProblemCall}
use Rattle.lin_history.specs.Problems.ProblemParts.{ProblemParts}

-- Both are pending, or both returned at one number with equal replies
abbrev pub SameReturn : {Reply : Type 0} → (Reply → Reply → Bool) → Option (ℕ × Reply) → Option (ℕ × Reply) → Type 0
SameReturn same None None = Unit {0}
SameReturn same (Some a) (Some b) = (a.0 ≡ b.0) × (same a.1 b.1 ≡ true)
SameReturn same None (Some b) = ⊥
SameReturn same (Some a) None = ⊥

-- Two calls are equal in every part
pub record SameCall {Op Reply : Type 0} (same_op : Op → Op → Bool) (same_reply : Reply → Reply → Bool) (a b : ProblemCall Op Reply) : Type 0 where
  pub process : a.process ≡ b.process
  pub op : same_op a.op b.op ≡ true
  pub called : a.called ≡ b.called
  pub returned : SameReturn same_reply a.returned b.returned

-- Two lists of calls are equal, call by call.
abbrev pub SameCalls : {Op Reply : Type 0} → (Op → Op → Bool) → (Reply → Reply → Bool) → List (ProblemCall Op Reply) → List (ProblemCall Op Reply) → Type 0
SameCalls same_op same_reply [] [] = Unit {0}
SameCalls same_op same_reply (a ∷ as_) (b ∷ bs) = SameCall same_op same_reply a b × SameCalls same_op same_reply as_ bs
SameCalls same_op same_reply [] (b ∷ bs) = ⊥
SameCalls same_op same_reply (a ∷ as_) [] = ⊥

-- Two problems are equal in every part
pub record SameProblem {Object State Op Reply : Type 0} (same_object : Object → Object → Bool) (same_state : State → State → Bool) (same_op : Op → Op → Bool) (same_reply : Reply → Reply → Bool) (p q : ProblemParts Object State Op Reply) : Type 0 where
  pub object : same_object p.object q.object ≡ true
  pub start : same_state p.start q.start ≡ true
  pub calls : SameCalls same_op same_reply p.calls q.calls
