-- Calls that need other calls (this project's own): an order of two calls that real time does not tell, and that every
-- linearization keeps.
use Rattle.std.specs.Prelude.{◌≡◌, ℕ, ◌<◌, List, ◌∷◌, ◌++◌, Some, length, slice_get}
use Rattle.lin_history.specs.Problems.Lists.{In}
use Rattle.lin_history.specs.Problems.Problem.{Problem}
use Rattle.lin_history.specs.Problems.Linearizations.{IsLinearization}

-- Call b needs call a: in every linearization that has b, a comes before it. A pending call may be needed too.
abbrev pub Needs : {State Op Reply : Type 0} → Problem State Op Reply → ℕ → ℕ → Type 0
Needs p a b = (l : List ℕ) → IsLinearization p l → (early : List ℕ) (late : List ℕ) → l ≡ early ++ b ∷ late → In a early

-- Two numbers for each call.
pub record NeedNumbers : Type 0 where
  pub by : List ℕ
  pub from : List ℕ

-- Each call has its two numbers, and a call needs every call whose number 'by' is less than its own number 'from'.
pub record AreNeeds {State Op Reply : Type 0} (p : Problem State Op Reply) (rows : NeedNumbers) : Type 0 where
  pub each_by : length rows.by ≡ length p.calls
  pub each_from : length rows.from ≡ length p.calls
  pub needed : (a b m n : ℕ) → slice_get rows.by a ≡ Some m → slice_get rows.from b ≡ Some n → m < n → Needs p a b
