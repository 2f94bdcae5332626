-- What a text prints.
use Rattle.std.specs.Prelude.{◌≡◌, ◌⊎◌, ℕ, ◌+◌, Bool, true, false, Option, Some, None, IsSome, List, ◌++◌, length}
use Rattle.lin_object.specs.declared.reply.Reply.{Reply}
use Rattle.lin_history.specs.declared.locality.placed.Placed.{Placed}
use Rattle.lin_history.specs.Recorder.RecordedHistory.{RecordedHistory}
use Rattle.lin_history.specs.Locality.Whole.{IsLinearizationOfWhole}
use Rattle.lin_history.specs.Locality.JoinedOrder.{IsJoined}
use Rattle.lin_history.specs.Locality.RecordedWhole.{whole_of}
use Rattle.lin_text.specs.declared.cause.TextFault.{TextFault}
use Rattle.lin_text.specs.Text.{MeansHistory, MeansFault}
use Rattle.lin_text.specs.EventLines.{AreEventLines}
use Rattle.lin_text.specs.Words.{fault_line}
use Rattle.lin_workers.specs.Bounds.{Bounds}
use Rattle.lin_workers.specs.Options.{Options, bounds_of}
use Rattle.lincheck.specs.declared.answer_form.AnswerForm.{AnswerForm}
use Rattle.lincheck.specs.declared.answer_form.AnswerForm.TheVariants.{Report, Explained, Each, EachExplained}
use Rattle.lincheck.specs.declared.status.Status.{Status}
use Rattle.lincheck.specs.declared.status.Status.TheVariants.{Yes, No, Undecided, Refused}
use Rattle.lincheck.specs.declared.verdict.Verdict.{Verdict}
use Rattle.lincheck.specs.declared.verdict.Verdict.TheVariants as verdicts
use Rattle.lincheck.specs.Verdict.{AreLeast, IsFirstWithout, IsLongestRunOf, IsUndecidedAt}
use Rattle.lincheck.specs.Explained.{WithExplanation, WithoutRun}
use Rattle.lincheck.specs.Stored.{IsStoredSum}
use Rattle.lincheck.specs.Each.{AreStatusesOf, AreStatusLines, status_of_all}
use Rattle.lincheck.specs.Report.{yes_report, undecided_report, stored_line}

-- A text that means a fault prints the line of the fault.
abbrev pub PrintsRefused : List ℕ → List ℕ → Type 0
PrintsRefused text printed = (fault : TextFault) × MeansFault text fault.line fault.cause × (printed ≡ fault_line fault)

-- A text that means a history prints the least linearizations of its objects, joined, where each object has one: what is
-- printed is a linearization of the whole.
abbrev pub PrintsYes : RecordedHistory → List ℕ → Type 0
PrintsYes h printed = (orders : List (List ℕ)) × (l : List (Placed Reply)) × AreLeast h orders × IsJoined (whole_of h) orders l × IsLinearizationOfWhole (whole_of h) l × (printed ≡ yes_report h l)

-- Otherwise it prints the first object that has none, with its longest run; where the lines of the events are given, the last calls
-- of that run, why it ends, and a core or nothing of one.
abbrev pub PrintsNo : Option (List ℕ) → RecordedHistory → ℕ → List ℕ → Type 0
PrintsNo lines h object printed = (run : List (Placed Reply)) × IsFirstWithout h object × IsLongestRunOf h object run × WithExplanation lines h object run printed

-- Where the time is bounded it may print that object without the run.
abbrev pub PrintsNoInTime : Option (List ℕ) → RecordedHistory → Bounds → ℕ → List ℕ → Type 0
PrintsNoInTime lines h bounds object printed = IsFirstWithout h object × IsSome bounds.seconds × WithoutRun lines h object printed

-- Within bounds it may print an object that is not decided.
abbrev pub PrintsUndecided : RecordedHistory → Bounds → ℕ → List ℕ → Type 0
PrintsUndecided h bounds object printed = IsUndecidedAt h bounds object × (printed ≡ undecided_report h object)

-- The report of a history within the bounds, with each status, where so many objects were judged: all, or those up to the one that is told.
abbrev pub IsReport : Option (List ℕ) → Bounds → RecordedHistory → Status → ℕ → List ℕ → Type 0
IsReport lines bounds h Yes judged printed = PrintsYes h printed × (judged ≡ length h.objects)
IsReport lines bounds h No judged printed = (object : ℕ) × (PrintsNo lines h object printed ⊎ PrintsNoInTime lines h bounds object printed) × ((l : List (Placed Reply)) → IsLinearizationOfWhole (whole_of h) l → ⊥) × (judged ≡ object + 1)
IsReport lines bounds h Undecided judged printed = (object : ℕ) × PrintsUndecided h bounds object printed × (judged ≡ object + 1)
IsReport lines bounds h Refused judged printed = ⊥

-- The report alone, or with the line of statistics after it: how many configurations were stored for the objects that were judged.
abbrev pub WithStats : Bool → RecordedHistory → ℕ → List ℕ → List ℕ → Type 0
WithStats false h judged report printed = printed ≡ report
WithStats true h judged report printed = (stored : ℕ) × IsStoredSum h judged stored × (printed ≡ report ++ stored_line (Some stored))

-- What a history prints with these options, with each status: its report, of one that is not linearizable why the longest run
-- ends where the lines of the events are given, and then statistics where they are asked for.
abbrev pub PrintsWith : Options → Option (List ℕ) → RecordedHistory → Status → List ℕ → Type 0
PrintsWith options lines h status printed = (judged : ℕ) × (report : List ℕ) × IsReport lines (bounds_of options) h status judged report × WithStats options.stats h judged report printed

-- With a line for each object, a history prints the status of each object by itself, and has the status of all together. Where the
-- lines of the events are given, it prints a core or nothing of one behind each object that is not linearizable.
pub record PrintsEach (options : Options) (events : Option (List ℕ)) (h : RecordedHistory) (status : Status) (printed : List ℕ) : Type 0 where
  pub statuses : List Status
  pub are : AreStatusesOf h (bounds_of options) (length h.objects) statuses
  pub together : status ≡ status_of_all statuses
  pub lines : List ℕ
  pub tell : AreStatusLines events h statuses lines
  pub print : WithStats options.stats h (length h.objects) lines printed

-- What a history that a text means prints in this form: its report; its report, with why the longest run ends and on which lines
-- of the text the calls are; or a line for each object, without or with cores.
abbrev pub PrintsHistory : Options → AnswerForm → List ℕ → RecordedHistory → Status → List ℕ → Type 0
PrintsHistory options Report text h status printed = PrintsWith options None h status printed
PrintsHistory options Explained text h status printed = (lines : List ℕ) × AreEventLines text h.events lines × PrintsWith options (Some lines) h status printed
PrintsHistory options Each text h status printed = PrintsEach options None h status printed
PrintsHistory options EachExplained text h status printed = (lines : List ℕ) × AreEventLines text h.events lines × PrintsEach options (Some lines) h status printed

-- What a text prints with these options in this form, with each status: what the history prints that it means, or the line of its
-- fault, which no statistics follow.
abbrev pub Prints : Options → AnswerForm → List ℕ → Status → List ℕ → Type 0
Prints options form text Yes printed = (h : RecordedHistory) × MeansHistory text h × PrintsHistory options form text h Yes printed
Prints options form text No printed = (h : RecordedHistory) × MeansHistory text h × PrintsHistory options form text h No printed
Prints options form text Undecided printed = (h : RecordedHistory) × MeansHistory text h × PrintsHistory options form text h Undecided printed
Prints options form text Refused printed = PrintsRefused text printed

-- The status of a verdict.
abbrev pub status_of : Verdict → Status
status_of (verdicts.Yes l) = Yes
status_of (verdicts.No object run) = No
status_of (verdicts.NoInTime object) = No
status_of (verdicts.Undecided object) = Undecided
