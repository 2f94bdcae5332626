-- Pending calls that need not be tried (this project's own).
use Rattle.std.specs.Prelude.{ℕ, ◌≤◌, List, ◌∷◌, length}
use Rattle.lin_history.specs.Problems.Problem.{Problem}
use Rattle.lin_history.specs.Problems.Precedence.{IsCompleted}
use Rattle.lin_history.specs.Problems.Continuations.{IsCompletion}
use Rattle.lin_search.specs.Configuration.{Configuration}
use Rattle.lin_search.specs.Answer.{HasNoCompletion}
use Rattle.lin_fewer.specs.Nodes.{NoneBegins}

-- Where a completion begins with the two calls, one begins with the second.
abbrev pub ComesFirst : {State Op Reply : Type 0} → Problem State Op Reply → Configuration State → ℕ → ℕ → Type 0
ComesFirst p x e c = (l : List ℕ) → IsCompletion p x.lifted x.state (e ∷ c ∷ l) → (m : List ℕ) × IsCompletion p x.lifted x.state (c ∷ m)

-- Where the configuration has a completion, one begins with a completed call.
abbrev pub BeginsCompleted : {State Op Reply : Type 0} → Problem State Op Reply → Configuration State → Type 0
BeginsCompleted p x = ((c : ℕ) → IsCompleted p c → NoneBegins p x.lifted x.state c) → HasNoCompletion p x.lifted x.state

-- A completion that begins with the call has one that is shorter.
abbrev pub IsNeedless : {State Op Reply : Type 0} → Problem State Op Reply → Configuration State → ℕ → Type 0
IsNeedless p x e = (l : List ℕ) → IsCompletion p x.lifted x.state (e ∷ l) → (m : List ℕ) × IsCompletion p x.lifted x.state m × (length m ≤ length l)
