-- Refusals that are told in an order.
use Rattle.std.specs.Prelude.{Bool, List, [], ◌∷◌, Option, Some, None, if◌then◌else◌}

-- The first of a list of conditions that holds: what is beside it; none where none holds.
abbrev pub first_that_holds : {A : Type 0} → List (Bool × A) → Option A
first_that_holds [] = None
first_that_holds (c ∷ cs) = if c.0 then Some c.1 else first_that_holds cs
