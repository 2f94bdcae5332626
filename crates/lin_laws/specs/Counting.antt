-- How many of some calls are so (this project's own).
use Rattle.std.specs.Prelude.{ℕ, ◌+◌, Bool, true, false, List, [], ◌∷◌}

-- One more, where that is so.
abbrev pub counted : Bool → ℕ → ℕ
counted true count = count + 1
counted false count = count

-- How many of these calls are so.
abbrev pub how_many : (ℕ → Bool) → List ℕ → ℕ
how_many is [] = 0
how_many is (d ∷ ds) = counted (is d) (how_many is ds)
