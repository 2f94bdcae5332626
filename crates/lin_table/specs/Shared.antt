-- What searches over a table make of a hand, and what an answer of the table says of it (this project's own).
use Rattle.std.specs.Prelude.{◌≡◌, ℕ, List, ◌++◌}
use Rattle.lin_search.specs.declared.memo.Noted.{Noted}
use Rattle.lin_search.specs.declared.memo.Noted.TheVariants.{New, Known, Busy, NoRoom, Stranger}
use Rattle.lin_search.specs.Configuration.{Configuration}
use Rattle.lin_table.specs.declared.rule.Entry.{Entry}
use Rattle.lin_table.specs.Hand.{HandFacts, HasStored}
use Rattle.lin_table.specs.Home.{home_of}

-- It is a hand of the same table, and more entries may stand at its end.
pub record HasGrown {O S A R : Type 0} (old new : HandFacts O S A R) : Type 0 where
  pub table : new.table ≡ old.table
  pub problem : new.problem ≡ old.problem
  pub more : (es : List (Entry O S A R)) × (new.entries ≡ old.entries ++ es)

-- What each answer to one who hands over a configuration says of the hand. `ours` is that the table of so many shards names the configuration's problem.
abbrev pub IsToldTo : {O S A R : Type 0} → Type 0 → ℕ → Configuration S → HandFacts O S A R → Noted → HandFacts O S A R → Type 0
IsToldTo ours shards config old New new = ours × HasStored old (home_of config.lifted shards) config new
IsToldTo ours shards config old Known new = ours × (new ≡ old)
IsToldTo ours shards config old Busy new = ours × (new ≡ old)
IsToldTo ours shards config old NoRoom new = ours × (new ≡ old)
IsToldTo ours shards config old Stranger new = (ours → ⊥) × (new ≡ old)
