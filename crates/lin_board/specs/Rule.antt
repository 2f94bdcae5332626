-- What the two words of a board and the views of its seats have to do with one another, between any two steps.
use Rattle.std.specs.Prelude.{◌≡◌, ℕ, ◌-◌, ◌<◌, ◌≤◌, ◌⊎◌, ◌^◌, min, List, [], ◌∷◌, length}
use mathlib.Core.Option.{some}
use lib.ListN.{get_elem?}
use Rattle.atomic_table.specs.Table.{State}
use Rattle.lin_board.specs.declared.rule.View.{View}
use Rattle.lin_board.specs.declared.rule.Plan.{Plan}
use Rattle.lin_board.specs.Lists.Totals.{total, times}
use Rattle.lin_board.specs.Lists.Division.{once_below}

-- the second word while nothing was found: 2^64 - 1, which is no task's number
abbrev pub nothing_found : ℕ
nothing_found = 18446744073709551615

-- a plan by its numbers of tasks and of seats
abbrev pub plan_of : ℕ → ℕ → Plan
plan_of tasks seats = record { tasks = tasks; seats = seats }

-- a view by its parts
abbrev pub view : Plan → ℕ → ℕ → List ℕ → List ℕ → List ℕ → View
view plan parts ends claimed found told = record { plan = plan; parts = parts; ends = ends; claimed = claimed; found = found; told = told }

-- the view of the first seat, which has a part for each seat
abbrev pub opening_view : Plan → View
opening_view plan = view plan plan.seats 0 [] [] []

-- how often x was claimed, by all
abbrev pub claims_of : ℕ → List View → ℕ
claims_of x = total (λ (v : View). times x v.claimed)

-- how often x was found, by all
abbrev pub finds_of : ℕ → List View → ℕ
finds_of x = total (λ (v : View). times x v.found)

-- how often x was told, to all
abbrev pub tells_of : ℕ → List View → ℕ
tells_of x = total (λ (v : View). times x v.told)

-- what holds of one view by itself: it has at most as many ends as parts, what it found is among its claims, and a view with no part is empty
pub record Fits (made_with : Plan) (v : View) : Type 0 where
  pub plan : 0 < v.parts → v.plan ≡ made_with
  pub ends : v.ends ≤ v.parts
  pub found : (x : ℕ) → 0 < times x v.found → 0 < times x v.claimed
  pub empty : v.parts ≡ 0 → (v.claimed ≡ []) × (v.found ≡ []) × (v.told ≡ [])

-- what holds of the two words and all views together, between any two steps
pub record RuleHolds (plan : Plan) (next least : ℕ) (views : List View) : Type 0 where
  pub parts : total (λ (v : View). v.parts) views ≡ plan.seats
  -- `next` is the number of all ends and all claims, and an end is there only where `next` is greater than the number of tasks
  pub ends : total (λ (v : View). v.ends) views ≡ next - plan.tasks
  pub count : total (λ (v : View). length v.claimed) views ≡ min next plan.tasks
  -- the claims divide the numbers below both `next` and the number of tasks
  pub divides : (x : ℕ) → claims_of x views ≡ once_below x (min next plan.tasks)
  pub each : (id : ℕ) (v : View) → get_elem? views id ≡ some v → Fits plan v
  -- what was told was found
  pub told : (x : ℕ) → 0 < tells_of x views → 0 < finds_of x views
  -- `least` is the least number found, or none was found
  pub is_found : (least ≡ nothing_found) ⊎ (0 < finds_of least views)
  pub lowest : (x : ℕ) → 0 < finds_of x views → least ≤ x
  -- so no number that is added to `next` wraps, and no task's number is `nothing_found`
  pub few_tasks : plan.tasks < 2 ^ 62
  pub few_seats : plan.seats ≤ 64

-- the rule: a state of the table has two words, of which it holds
abbrev pub KeepsRule : Plan → State (Unit {0}) View → Type 0
KeepsRule plan s = (next : ℕ) × (least : ℕ) × (s.words ≡ next ∷ least ∷ []) × RuleHolds plan next least s.views
