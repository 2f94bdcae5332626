-- What a verdict says of a history, and what is reported of it.
use Rattle.std.specs.Prelude.{◌≡◌, ℕ, ◌<◌, Some, IsSome, List, length, slice_get}
use Rattle.lin_object.specs.declared.reply.Reply.{Reply}
use Rattle.lin_history.specs.declared.locality.placed.Placed.{Placed}
use Rattle.lin_history.specs.Problems.Lists.{IsLeast}
use Rattle.lin_history.specs.Problems.Linearizations.{IsRun, IsLinearization}
use Rattle.lin_history.specs.Recorder.RecordedHistory.{RecordedHistory}
use Rattle.lin_history.specs.Locality.Whole.{IsLinearizationOfWhole}
use Rattle.lin_history.specs.Locality.JoinedOrder.{Places, IsJoined}
use Rattle.lin_history.specs.Locality.RecordedWhole.{start_at, whole_of, part_of}
use Rattle.lin_history.specs.Verifier.Flags.{AreKnown}
use Rattle.lin_search.specs.LongestRun.{IsFirstLongest}
use Rattle.lin_workers.specs.Bounds.{Bounds}
use Rattle.lin_workers.specs.Verdict.{MayBeUndecided}
use Rattle.lincheck.specs.declared.verdict.Verdict.{Verdict}
use Rattle.lincheck.specs.declared.verdict.Verdict.TheVariants.{Yes, No, NoInTime, Undecided}
use Rattle.lincheck.specs.Report.{yes_report, no_report, no_report_in_time, undecided_report}

-- One order for each of the first n objects, in the order of declaration, each the least linearization of its object.
pub record AreLeastOf (h : RecordedHistory) (n : ℕ) (orders : List (List ℕ)) : Type 0 where
  pub count : length orders ≡ n
  pub each : (object : ℕ) (order : List ℕ) → slice_get orders object ≡ Some order → IsLeast (IsLinearization (part_of h object)) order

-- The same of all objects.
abbrev pub AreLeast : RecordedHistory → List (List ℕ) → Type 0
AreLeast h orders = AreLeastOf h (length h.objects) orders

-- The object is the first, in the order of declaration, that has no linearization.
pub record IsFirstWithout (h : RecordedHistory) (object : ℕ) : Type 0 where
  pub declared : object < length h.objects
  pub none : (l : List ℕ) → IsLinearization (part_of h object) l → ⊥
  pub earlier : (i : ℕ) → i < object → (l : List ℕ) × IsLinearization (part_of h i) l

-- The list is the longest run of the object, of these the first in lexicographic order, each call with the reply of its
-- step.
pub record IsLongestRunOf (h : RecordedHistory) (object : ℕ) (run : List (Placed Reply)) : Type 0 where
  pub order : List ℕ
  pub longest : IsFirstLongest (IsRun (part_of h object)) order
  pub placed : Places (whole_of h) object (start_at h object) order run

-- The object is not decided: each before it has a linearization, and the bounds may have ended its search.
pub record IsUndecidedAt (h : RecordedHistory) (bounds : Bounds) (object : ℕ) : Type 0 where
  pub declared : object < length h.objects
  pub earlier : (i : ℕ) → i < object → (l : List ℕ) × IsLinearization (part_of h i) l
  pub over : MayBeUndecided (part_of h object) bounds

-- The verdict is right: yes, with the least linearizations of the objects joined, which is a linearization of the whole;
-- or no, with the first object that has none and its longest run, and then the whole has none; or the same without that run,
-- where the time is bounded; or, within bounds,
-- undecided at an object before which each has a linearization.
abbrev pub IsVerdict : RecordedHistory → Bounds → Verdict → Type 0
IsVerdict h bounds (Yes l) = ((orders : List (List ℕ)) × AreLeast h orders × IsJoined (whole_of h) orders l) × IsLinearizationOfWhole (whole_of h) l
IsVerdict h bounds (No object run) = (IsFirstWithout h object × IsLongestRunOf h object run.items) × ((l : List (Placed Reply)) → IsLinearizationOfWhole (whole_of h) l → ⊥)
IsVerdict h bounds (NoInTime object) = (IsFirstWithout h object × IsSome bounds.seconds) × ((l : List (Placed Reply)) → IsLinearizationOfWhole (whole_of h) l → ⊥)
IsVerdict h bounds (Undecided object) = IsUndecidedAt h bounds object

-- What the verdict names are calls and objects of the history.
abbrev pub IsOf : RecordedHistory → Verdict → Type 0
IsOf h (Yes l) = AreKnown (whole_of h) l
IsOf h (No object run) = (object < length h.objects) × AreKnown (whole_of h) run.items
IsOf h (NoInTime object) = object < length h.objects
IsOf h (Undecided object) = object < length h.objects

-- The report of the verdict.
abbrev pub report_of : RecordedHistory → Verdict → List ℕ
report_of h (Yes l) = yes_report h l
report_of h (No object run) = no_report h object run.items
report_of h (NoInTime object) = no_report_in_time h object
report_of h (Undecided object) = undecided_report h object
