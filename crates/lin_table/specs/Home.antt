-- Which shard of a table a configuration is kept in (this project's own).
use Rattle.std.specs.Prelude.{ℕ, ◌%◌, Bool, List}
use Rattle.lin_search.specs.CallSet.{sum_of}

-- The home of a configuration with these calls lifted: the shard whose number is the sum of the calls' numbers modulo the number of shards.
abbrev pub home_of : List Bool → ℕ → ℕ
home_of set shards = sum_of set % shards
