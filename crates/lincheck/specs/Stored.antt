-- How many configurations a check stores, which statistics tell (this project's own; configurations are those of Lowe 2017).
use Rattle.std.specs.Prelude.{◌≡◌, ℕ, ◌+◌, ◌≤◌, IfSome, IsSome, List, Option, Some, length, slice_get, sum}
use Rattle.lin_history.specs.declared.limits.TheConstants.{MAX_OBJECTS}
use Rattle.lin_history.specs.Locality.RecordedWhole.{part_of}
use Rattle.lin_history.specs.Recorder.RecordedHistory.{RecordedHistory}
use Rattle.lin_workers.specs.Verdict.{IsNumberStored}
use Rattle.lincheck.specs.declared.verdict.Verdict.{Verdict}
use Rattle.lincheck.specs.declared.verdict.Verdict.TheVariants.{Yes, No, NoInTime, Undecided}

-- One number for each of the first n objects, in the order of declaration: so many configurations were stored for the object.
pub record AreStoredOf (h : RecordedHistory) (n : ℕ) (numbers : List ℕ) : Type 0 where
  pub count : length numbers ≡ n
  pub each : (object : ℕ) (stored : ℕ) → slice_get numbers object ≡ Some stored → IsNumberStored (part_of h object) stored

-- So many configurations were stored for the first n objects together.
abbrev pub IsStoredSum : RecordedHistory → ℕ → ℕ → Type 0
IsStoredSum h n stored = (numbers : List ℕ) × AreStoredOf h n numbers × (stored ≡ sum numbers)

-- What is told of that: such a sum. It is told of as many objects as a history may have.
pub record IsStoredTold (h : RecordedHistory) (n : ℕ) (told : Option ℕ) : Type 0 where
  pub is_sum : IfSome told (IsStoredSum h n)
  pub is_told : n ≤ MAX_OBJECTS → IsSome told

-- How many objects are judged to come to a verdict: all of them, or those up to the one at which the check ends.
abbrev pub judged_of : RecordedHistory → Verdict → ℕ
judged_of h (Yes l) = length h.objects
judged_of h (No object run) = object + 1
judged_of h (NoInTime object) = object + 1
judged_of h (Undecided object) = object + 1
