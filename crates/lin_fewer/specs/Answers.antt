-- What is told of a configuration (this project's own).
use Rattle.std.specs.Prelude.{ℕ, ◌<◌, List, ◌∷◌}
use Rattle.lin_history.specs.Problems.Problem.{Problem}
use Rattle.lin_history.specs.Problems.Continuations.{IsCompletion}
use Rattle.lin_search.specs.Configuration.{Configuration}
use Rattle.lin_search.specs.Answer.{HasNoCompletion}
use Rattle.lin_fewer.specs.declared.verdict.Verdict.{Verdict}
use Rattle.lin_fewer.specs.declared.verdict.Verdict.TheVariants.{Completes, Refuted, Unknown}
use Rattle.lin_fewer.specs.declared.seen.Seen.{Seen}
use Rattle.lin_fewer.specs.declared.seen.Seen.TheVariants.{Bears, Refuted as SeenRefuted, Open}
use Rattle.lin_fewer.specs.Fronts.{IsFirstLeft}
use Rattle.lin_fewer.specs.Knowledge.{IsBorne}
use Rattle.lin_fewer.specs.Nodes.{NoneBegins}

-- The configuration has a completion; it has none; nothing is said.
abbrev pub IsVerdict : {State Op Reply : Type 0} → Problem State Op Reply → Configuration State → Verdict → Type 0
IsVerdict p x Completes = (l : List ℕ) × IsCompletion p x.lifted x.state l
IsVerdict p x Refuted = HasNoCompletion p x.lifted x.state
IsVerdict p x Unknown = Unit {0}

-- It bears this; it has no completion; this is its first completed call that is left.
abbrev pub IsSeen : {State Op Reply : Type 0} → Problem State Op Reply → Configuration State → Seen → Type 0
IsSeen p x (Bears borne) = IsBorne p x.lifted x.state borne
IsSeen p x SeenRefuted = HasNoCompletion p x.lifted x.state
IsSeen p x (Open first) = IsFirstLeft p x.lifted first

-- A completion begins with the call; none does; nothing is said.
abbrev pub IsVerdictBy : {State Op Reply : Type 0} → Problem State Op Reply → Configuration State → ℕ → Verdict → Type 0
IsVerdictBy p x c Completes = (l : List ℕ) × IsCompletion p x.lifted x.state (c ∷ l)
IsVerdictBy p x c Refuted = NoneBegins p x.lifted x.state c
IsVerdictBy p x c Unknown = Unit {0}

-- The least call with which a completion begins.
pub record IsLeastCall {State Op Reply : Type 0} (p : Problem State Op Reply) (x : Configuration State) (c : ℕ) : Type 0 where
  pub begins : (l : List ℕ) × IsCompletion p x.lifted x.state (c ∷ l)
  pub least : (d : ℕ) → d < c → NoneBegins p x.lifted x.state d
