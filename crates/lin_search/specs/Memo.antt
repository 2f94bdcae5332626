-- What a memo answers to one who hands it a refutation, and what it holds when it has kept every refuted configuration of a search (Lowe 2017; this
-- project's own).
use Rattle.std.specs.Prelude.{ℕ, Bool, List}
use Rattle.lin_history.specs.Problems.Problem.{Problem}
use Rattle.lin_search.specs.declared.memo.Noted.{Noted}
use Rattle.lin_search.specs.declared.memo.Noted.TheVariants.{New, Known, Busy, NoRoom, Stranger}
use Rattle.lin_search.specs.CallSet.{with_call}
use Rattle.lin_search.specs.NextCall.{IsNext}

-- The memo has the configuration now.
abbrev pub IsKept : Noted → Type 0
IsKept New = Unit {0}
IsKept Known = Unit {0}
IsKept Busy = ⊥
IsKept NoRoom = ⊥
IsKept Stranger = ⊥

-- With each configuration that is held, each that one call leads to is held.
abbrev pub IsClosed : {State Op Reply : Type 0} → Problem State Op Reply → (List Bool → State → Type 0) → Type 0
IsClosed {State} p holds = (set : List Bool) (s : State) → holds set s → (c : ℕ) (t : State) → IsNext p set s c t → holds (with_call set c) t
