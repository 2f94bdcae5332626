-- What a search tells of the runs of a call (this project's own).
use Rattle.std.specs.Prelude.{ℕ, List}
use Rattle.lin_history.specs.Problems.Problem.{Problem}
use Rattle.lin_prefixes.specs.declared.part_search.RunsTold.{RunsTold}
use Rattle.lin_prefixes.specs.declared.part_search.RunsTold.TheVariants.{NoRun, SomeRun, Nothing, Ended}
use Rattle.lin_prefixes.specs.Prefixes.{HasNoRunWith}

-- That no run of k has all these calls, or nothing.
abbrev pub IsToldOfRuns : {State Op Reply : Type 0} → Problem State Op Reply → ℕ → List ℕ → RunsTold → Type 0
IsToldOfRuns p k calls NoRun = HasNoRunWith p k calls
IsToldOfRuns p k calls SomeRun = Unit {0}
IsToldOfRuns p k calls Nothing = Unit {0}
IsToldOfRuns p k calls Ended = Unit {0}
