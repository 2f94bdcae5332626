-- How many configurations a problem has (Lowe 2017), where equal ones count once.
use Rattle.std.specs.Prelude.{◌≡◌, ℕ, Bool, true, List, [], ◌∷◌, ◌⊎◌, length}
use Rattle.lin_history.specs.Problems.Problem.{Problem}
use Rattle.lin_history.specs.Problems.Configurations.{IsReachable}
use Rattle.lin_search.specs.Configuration.{Configuration}

-- A configuration of the list has this set and a state equal to this one.
abbrev pub Among : {State : Type 0} → (State → State → Bool) → List (Configuration State) → List Bool → State → Type 0
Among same [] set s = ⊥
Among same (x ∷ xs) set s = ((set ≡ x.lifted) × (same s x.state ≡ true)) ⊎ Among same xs set s

-- No configuration is in the list twice.
abbrev pub AllApart : {State : Type 0} → (State → State → Bool) → List (Configuration State) → Type 0
AllApart same [] = Unit {0}
AllApart same (x ∷ xs) = (Among same xs x.lifted x.state → ⊥) × AllApart same xs

-- Each configuration of the list is reachable.
abbrev pub AllReachable : {State Op Reply : Type 0} → Problem State Op Reply → List (Configuration State) → Type 0
AllReachable p [] = Unit {0}
AllReachable p (x ∷ xs) = IsReachable p x.lifted x.state × AllReachable p xs

-- Reachable configurations, each once.
pub record AreReachable {State Op Reply : Type 0} (p : Problem State Op Reply) (xs : List (Configuration State)) : Type 0 where
  pub apart : AllApart p.same_state xs
  pub reachable : AllReachable p xs

-- Every reachable configuration is in the list.
abbrev pub HasEachReachable : {State Op Reply : Type 0} → Problem State Op Reply → List (Configuration State) → Type 0
HasEachReachable {State} p xs = (set : List Bool) (s : State) → IsReachable p set s → Among p.same_state xs set s

-- There are n reachable configurations, or more.
abbrev pub HasReachable : {State Op Reply : Type 0} → Problem State Op Reply → ℕ → Type 0
HasReachable {State} p n = (xs : List (Configuration State)) × AreReachable p xs × (length xs ≡ n)

-- n is the number of the reachable configurations.
abbrev pub IsNumberReachable : {State Op Reply : Type 0} → Problem State Op Reply → ℕ → Type 0
IsNumberReachable {State} p n = (xs : List (Configuration State)) × AreReachable p xs × HasEachReachable p xs × (length xs ≡ n)
