-- What each object of a history is by itself, and how that is printed (this project's own).
use Rattle.std.specs.Prelude.{◌≡◌, ℕ, ◌+◌, ◌++◌, Bool, true, false, Option, Some, None, List, [], ◌∷◌, codes, length, slice_get, if◌then◌else◌, IfSome}
use Rattle.std.specs.List.{list_any}
use Rattle.lin_history.specs.Problems.Linearizations.{IsLinearization}
use Rattle.lin_history.specs.Recorder.RecordedHistory.{RecordedHistory}
use Rattle.lin_history.specs.Locality.RecordedWhole.{part_of}
use Rattle.lin_explain.specs.declared.witness_text.Witness.{Witness}
use Rattle.lin_explain.specs.declared.witness_text.Witness.TheVariants.{Nothing}
use Rattle.lin_workers.specs.Bounds.{Bounds}
use Rattle.lin_workers.specs.Verdict.{MayBeUndecided}
use Rattle.lincheck.specs.declared.status.Status.{Status}
use Rattle.lincheck.specs.declared.status.Status.TheVariants.{Yes, No, Undecided, Refused}
use Rattle.lincheck.specs.Explained.{IsWitness, witness_text_of}
use Rattle.lincheck.specs.Report.{name_of}

-- The status of an object by itself: it has a linearization; it has none; or the bounds may have ended its search.
abbrev pub IsStatusOf : RecordedHistory → Bounds → ℕ → Status → Type 0
IsStatusOf h bounds object Yes = (l : List ℕ) × IsLinearization (part_of h object) l
IsStatusOf h bounds object No = (l : List ℕ) → IsLinearization (part_of h object) l → ⊥
IsStatusOf h bounds object Undecided = MayBeUndecided (part_of h object) bounds
IsStatusOf h bounds object Refused = ⊥

-- One status for each of the first n objects, in the order of declaration.
pub record AreStatusesOf (h : RecordedHistory) (bounds : Bounds) (n : ℕ) (statuses : List Status) : Type 0 where
  pub count : length statuses ≡ n
  pub each : (object : ℕ) (status : Status) → slice_get statuses object ≡ Some status → IsStatusOf h bounds object status

-- What is known of each of the first objects to let a reader see that it has no order, does.
abbrev pub AreWitnessesOf : RecordedHistory → List (Option Witness) → Type 0
AreWitnessesOf h known = (object : ℕ) (witness : Option Witness) → slice_get known object ≡ Some witness → IfSome witness (IsWitness h object)

-- What is printed of an object by itself.
abbrev pub status_text : Status → List ℕ
status_text Yes = codes "linearizable"
status_text No = codes "not linearizable"
status_text Undecided = codes "undecided"
status_text Refused = codes "refused"

-- The lines of objects with these statuses, of which the first has index n.
abbrev pub status_lines : RecordedHistory → ℕ → List Status → List ℕ
status_lines h n [] = []
status_lines h n (status ∷ statuses) = name_of h n ++ codes ": " ++ status_text status ++ codes "\n" ++ status_lines h (n + 1) statuses

-- Behind the line of an object with this status this is told: where it is not linearizable what shows that, if that was found; else
-- nothing.
abbrev pub IsToldBehind : RecordedHistory → ℕ → Status → Witness → Type 0
IsToldBehind h object Yes told = told ≡ Nothing
IsToldBehind h object No told = IsWitness h object told
IsToldBehind h object Undecided told = told ≡ Nothing
IsToldBehind h object Refused told = told ≡ Nothing

-- The line of an object with this status, with that behind it.
abbrev pub told_text : RecordedHistory → List ℕ → ℕ → Status → Witness → List ℕ
told_text h lines object status told = name_of h object ++ codes ": " ++ status_text status ++ codes "\n" ++ witness_text_of h object lines told

-- The lines of objects with these statuses, of which the first has index n, each with what is told behind it.
abbrev pub AreToldFrom : RecordedHistory → List ℕ → ℕ → List Status → List ℕ → Type 0
AreToldFrom h lines n [] printed = printed ≡ []
AreToldFrom h lines n (status ∷ statuses) printed =
    (told : Witness) × IsToldBehind h n status told × (rest : List ℕ) × AreToldFrom h lines (n + 1) statuses rest × (printed ≡ told_text h lines n status told ++ rest)

-- The lines of a history's objects; where the lines of the events are given, with what is told behind them.
abbrev pub AreStatusLines : Option (List ℕ) → RecordedHistory → List Status → List ℕ → Type 0
AreStatusLines None h statuses printed = printed ≡ status_lines h 0 statuses
AreStatusLines (Some lines) h statuses printed = AreToldFrom h lines 0 statuses printed

abbrev pub is_no : Status → Bool
is_no Yes = false
is_no No = true
is_no Undecided = false
is_no Refused = false

abbrev pub is_undecided : Status → Bool
is_undecided Yes = false
is_undecided No = false
is_undecided Undecided = true
is_undecided Refused = false

-- The status of objects together: no where one is not linearizable, else undecided where one is not decided, else yes.
abbrev pub status_of_all : List Status → Status
status_of_all statuses = if list_any is_no statuses then No else if list_any is_undecided statuses then Undecided else Yes
