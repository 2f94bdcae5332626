-- Within which bounds an object is searched (this project's own).
use Rattle.std.specs.Prelude.{ℕ, Option, None}

-- How many lifts each search makes at most, and after how many seconds it ends, each where it is bounded.
pub record Bounds : Type 0 where
  pub limit : Option ℕ
  pub seconds : Option ℕ

-- The limit of the bounds alone.
abbrev pub without_time : Bounds → Bounds
without_time bounds = record { limit = bounds.limit; seconds = None }

-- No bounds at all.
abbrev pub unbounded : Bounds
unbounded = record { limit = None; seconds = None }
