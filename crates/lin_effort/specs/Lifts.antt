-- How many lifts searches make (this project's own).
use Rattle.std.specs.Prelude.{ℕ, ◌+◌, ◌*◌, min, Option, Some, None}
use Rattle.lin_effort.specs.declared.efforts.TheConstants.{LIFTS_FOR_A_CALL_ON_A_KEY, MORE_LIFTS_ON_A_KEY}

-- The number, but never more than the limit.
abbrev pub at_most : Option ℕ → ℕ → ℕ
at_most None n = n
at_most (Some most) n = min most n

-- How many lifts a search of so many calls may make, which are those on one key.
abbrev pub lifts_on_key : Option ℕ → ℕ → ℕ
lifts_on_key limit calls = at_most limit (LIFTS_FOR_A_CALL_ON_A_KEY * calls + MORE_LIFTS_ON_A_KEY)
