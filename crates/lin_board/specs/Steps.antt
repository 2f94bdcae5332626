-- What each step of a seat does to its view, and what it answers the seat.
use Rattle.std.specs.Prelude.{◌≡◌, ◌≢◌, ℕ, ◌+◌, ◌-◌, ◌<◌, ◌≤◌, [], ◌∷◌, ◌++◌, length, All, Contains}
use Rattle.atomic_table.specs.Table.{Me}
use Rattle.lin_board.specs.declared.rule.View.{View}
use Rattle.lin_board.specs.Rule.{plan_of, view, nothing_found}

-- a seat's view, and the slots that it holds, of which a board has none
abbrev pub Holder : Type 0
Holder = Me (Unit {0}) View

-- one claim more
abbrev pub with_claim : View → ℕ → View
with_claim v x = view v.plan v.parts v.ends (v.claimed ++ x ∷ []) v.found v.told

-- one end more
abbrev pub with_end : View → View
with_end v = view v.plan v.parts (v.ends + 1) v.claimed v.found v.told

-- one finding more
abbrev pub with_found : View → ℕ → View
with_found v x = view v.plan v.parts v.ends v.claimed (v.found ++ x ∷ []) v.told

-- one number more that was told
abbrev pub with_told : View → ℕ → View
with_told v x = view v.plan v.parts v.ends v.claimed v.found (v.told ++ x ∷ [])

-- what is left of a view when one part goes to a new seat
abbrev pub one_part_less : View → View
one_part_less v = view v.plan (v.parts - 1) v.ends v.claimed v.found v.told

-- the view of a new seat
abbrev pub one_part : View → View
one_part v = view v.plan 1 0 [] [] []

-- what two views have together
abbrev pub both_views : View → View → View
both_views v w = view v.plan (v.parts + w.parts) (v.ends + w.ends) (v.claimed ++ w.claimed) (v.found ++ w.found) (v.told ++ w.told)

-- the view of a seat whose parts went to another
abbrev pub no_part : View
no_part = view (plan_of 0 0) 0 0 [] [] []

-- a claim: the number found is a task, which this seat did not claim before; or no task is left, and the seat has an end
pub record ClaimTells (before : Holder) (number : ℕ) (after : Holder) : Type 0 where
  pub some : number < before.0.plan.tasks → after.0 ≡ with_claim before.0 number
  pub other : number < before.0.plan.tasks → ¬ Contains before.0.claimed number
  pub large : number < before.0.plan.tasks → length before.0.claimed ≤ number
  pub none : before.0.plan.tasks ≤ number → after.0 ≡ with_end before.0
  pub slots : after.1 ≡ before.1

-- a finding
pub record FoundTells (task : ℕ) (before after : Holder) : Type 0 where
  pub found : after.0 ≡ with_found before.0 task
  pub slots : after.1 ≡ before.1

-- a look at the least: it is a task, and at most all that this seat found and was told; or nothing was found, and this seat found and was told nothing
pub record LeastTells (before : Holder) (number : ℕ) (after : Holder) : Type 0 where
  pub some : number ≢ nothing_found → after.0 ≡ with_told before.0 number
  pub below : number ≢ nothing_found → number < before.0.plan.tasks
  pub found : number ≢ nothing_found → All (λ x. number ≤ x) before.0.found
  pub told : number ≢ nothing_found → All (λ x. number ≤ x) before.0.told
  pub none : number ≡ nothing_found → (before.0.found ≡ []) × (before.0.told ≡ [])
  pub same : number ≡ nothing_found → after.0 ≡ before.0
  pub slots : after.1 ≡ before.1
