-- More calls that took values away than made them (this project's own).
use Rattle.std.specs.Prelude.{ℕ, ◌<◌, List, [], ◌∷◌, length, slice_get, IsSomeAnd, IsTrue}
use Rattle.lin_object.specs.declared.op.Op.{Op}
use Rattle.lin_object.specs.declared.reply.Reply.{Reply}
use Rattle.lin_history.specs.declared.problems.problem.ProblemCall.{ProblemCall}
use Rattle.lin_history.specs.Problems.Lists.{In, IsDistinct}
use Rattle.lin_ahead.specs.declared.values.owners.Owners.{Owners}
use Rattle.lin_ahead.specs.Values.TakenTwice.{TakesAway}

-- Each of the calls is among the makers.
abbrev pub AreMakers : List ℕ → List ℕ → Type 0
AreMakers makers [] = Unit {0}
AreMakers makers (c ∷ cs) = In c makers × AreMakers makers cs

-- One of the makers made what the call found of which these are the owners. The start counts as a call behind all others.
abbrev pub ComesFrom : List ℕ → ℕ → Owners → Type 0
ComesFrom makers start owners = IsTrue owners.are_told × AreMakers makers owners.calls.items × (IsTrue owners.at_start → In start makers)

-- The call took away what one of the makers made.
abbrev pub TakesFromMakers : List (ProblemCall Op Reply) → List Owners → List ℕ → ℕ → Type 0
TakesFromMakers calls rows makers g = TakesAway calls g × IsSomeAnd (slice_get rows g) (ComesFrom makers (length calls))

-- More calls took away what some makers made than there are of these.
pub record AreTooManyTakers (calls : List (ProblemCall Op Reply)) (rows : List Owners) : Type 0 where
  pub makers : List ℕ
  pub takers : List ℕ
  pub distinct : IsDistinct takers
  pub each : (g : ℕ) → In g takers → TakesFromMakers calls rows makers g
  pub more : length makers < length takers
