-- Options, and why there are none (this project's own).
use Rattle.std.specs.Prelude.{ℕ, ◌≤◌, ◌||◌, if◌then◌else◌, Bool, false, Option, IfSome, Some, None, nat_lt, Result, Ok, Err, List, [], ◌∷◌}
use Rattle.lin_history.specs.Refusals.{first_that_holds}
use Rattle.lin_workers.specs.declared.options.OptionFault.{OptionFault}
use Rattle.lin_workers.specs.declared.options.OptionFault.TheVariants.{Workers, Shards, Limit, Seconds}
use Rattle.lin_workers.specs.declared.options.TheConstants.{MAX_WORKERS, MAX_SHARDS, MAX_LIMIT, MAX_SECONDS}
use Rattle.lin_workers.specs.Bounds.{Bounds}

-- How a check is run.
pub record Options : Type 0 where
  pub workers : ℕ
  pub shards : ℕ
  pub limit : Option ℕ
  pub stats : Bool
  pub seconds : Option ℕ
  pub progress : Bool

-- The number is from 1 to the greatest.
abbrev pub IsUpTo : ℕ → ℕ → Type 0
IsUpTo greatest n = (1 ≤ n) × (n ≤ greatest)

-- The options are within their ranges.
abbrev pub AreWithin : Options → Type 0
AreWithin o = IsUpTo MAX_WORKERS o.workers × IsUpTo MAX_SHARDS o.shards × IfSome o.limit (IsUpTo MAX_LIMIT) × IfSome o.seconds (IsUpTo MAX_SECONDS)

-- The number is not from 1 to the greatest.
abbrev pub is_outside : ℕ → ℕ → Bool
is_outside greatest n = nat_lt n 1 || nat_lt greatest n

-- The same of a limit, where there is one.
abbrev pub is_limit_outside : Option ℕ → Bool
is_limit_outside None = false
is_limit_outside (Some n) = is_outside MAX_LIMIT n

-- The same of seconds, where there are some.
abbrev pub is_time_outside : Option ℕ → Bool
is_time_outside None = false
is_time_outside (Some n) = is_outside MAX_SECONDS n

-- Why options are refused, in order.
abbrev pub option_refusals : Options → List (Bool × OptionFault)
option_refusals o =
    (is_outside MAX_WORKERS o.workers, Workers)
    ∷ (is_outside MAX_SHARDS o.shards, Shards)
    ∷ (is_limit_outside o.limit, Limit)
    ∷ []

abbrev unless : {A F : Type 0} → Option F → A → Result A F
unless None value = Ok value
unless (Some fault) value = Err fault

-- These options, or their first refusal.
abbrev pub options_made : Options → Result Options OptionFault
options_made o = unless (first_that_holds (option_refusals o)) o

-- Options with these seconds, or why they are refused.
abbrev pub with_seconds : Option ℕ → Options → Result Options OptionFault
with_seconds seconds o = unless (first_that_holds ((is_time_outside seconds, Seconds) ∷ [])) (record {
  workers = o.workers;
  shards = o.shards;
  limit = o.limit;
  stats = o.stats;
  seconds = seconds;
  progress = o.progress;
})

-- Within which bounds an object is searched.
abbrev pub bounds_of : Options → Bounds
bounds_of o = record { limit = o.limit; seconds = o.seconds }

-- Options with at most so many workers, but one at least.
abbrev pub with_at_most : ℕ → Options → Options
with_at_most most o = record {
  workers = if nat_lt o.workers most then o.workers else if nat_lt most 1 then 1 else most;
  shards = o.shards;
  limit = o.limit;
  stats = o.stats;
  seconds = o.seconds;
  progress = o.progress;
}

-- Options for a check that shows how far it has come, or does not.
abbrev pub with_progress : Bool → Options → Options
with_progress progress o = record {
  workers = o.workers;
  shards = o.shards;
  limit = o.limit;
  stats = o.stats;
  seconds = o.seconds;
  progress = progress;
}
