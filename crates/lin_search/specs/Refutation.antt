-- Refutations (Lowe 2017): refuted configurations, with what is kept of them.
use Rattle.std.specs.Prelude.{List, Bool}
use Rattle.lin_history.specs.Problems.Lists.{IsLongest}
use Rattle.lin_history.specs.Problems.Problem.{Problem}
use Rattle.lin_history.specs.Problems.ProblemParts.{ProblemParts}
use Rattle.lin_history.specs.Problems.Continuations.{IsContinuation}
use Rattle.lin_history.specs.Problems.Configurations.{IsRefuted}
use Rattle.lin_search.specs.declared.longest.Longest.{Longest}
use Rattle.lin_search.specs.Configuration.{Configuration}

-- A problem, a configuration of it, and what its longest continuations tell.
pub record Refutation (Object State Op Reply : Type 0) : Type 0 where
  pub problem : ProblemParts Object State Op Reply
  pub config : Configuration State
  pub longest : Longest

-- The configuration is reachable and has no completion, and this is what its longest continuations tell.
pub record IsRefutedWith {State Op Reply : Type 0} (p : Problem State Op Reply) (set : List Bool) (s : State) (longest : Longest) : Type 0 where
  pub refuted : IsRefuted p set s
  pub longest_is : IsLongest (IsContinuation p set s) longest.more longest.first
