-- What most readers want of a run, in words that know only linearizations of the whole (Herlihy and Wing 1990): it follows from
-- what a run writes (`Ran`).
use Rattle.std.specs.Prelude.{◌≡◌, ℕ, Bool, false, Option, IfSome, List, [], ◌++◌, Result, Ok, Err}
use Rattle.std.specs.Io.KnownBytes.{Appends}
use Rattle.lin_object.specs.declared.reply.Reply.{Reply}
use Rattle.lin_history.specs.declared.locality.placed.Placed.{Placed}
use Rattle.lin_history.specs.Recorder.RecordedHistory.{RecordedHistory}
use Rattle.lin_history.specs.Locality.Whole.{IsLinearizationOfWhole}
use Rattle.lin_history.specs.Locality.RecordedWhole.{whole_of}
use Rattle.lin_history.specs.Locality.LocalityLaw.{HasWhole, HasEach}
use Rattle.lin_text.specs.Text.{MeansHistory}
use Rattle.lincheck.specs.declared.answer_form.AnswerForm.{AnswerForm}
use Rattle.lincheck.specs.declared.answer_form.AnswerForm.TheVariants.{Report, Explained, Each, EachExplained}
use Rattle.lincheck.specs.declared.status.Status.{Status}
use Rattle.lincheck.specs.declared.status.Status.TheVariants.{Yes, No, Undecided, Refused}
use Rattle.lincheck.specs.declared.fault.RunFault.{RunFault}
use Rattle.lincheck.specs.Report.{yes_report}

-- What is printed is the report of a linearization of the whole; after it comes nothing, unless statistics are asked for.
abbrev pub ReportsLinearization : Bool → RecordedHistory → List ℕ → Type 0
ReportsLinearization stats h printed =
    (l : List (Placed Reply)) × IsLinearizationOfWhole (whole_of h) l × (more : List ℕ) × (printed ≡ yes_report h l ++ more) × (stats ≡ false → more ≡ [])

-- What is so at `Yes`, in each form: with a line for each object nothing of an order is printed, but there is one.
abbrev pub IsSoundYes : AnswerForm → Bool → RecordedHistory → List ℕ → Type 0
IsSoundYes Report stats h printed = ReportsLinearization stats h printed
IsSoundYes Explained stats h printed = ReportsLinearization stats h printed
IsSoundYes Each stats h printed = HasEach h × HasWhole h
IsSoundYes EachExplained stats h printed = HasEach h × HasWhole h

-- At `Yes` the text means a history and this is so; at `No` it means a history that has no linearization, in every form.
abbrev pub IsSound : AnswerForm → Bool → List ℕ → Status → List ℕ → Type 0
IsSound form stats text Yes printed = (h : RecordedHistory) × MeansHistory text h × IsSoundYes form stats h printed
IsSound form stats text No printed = (h : RecordedHistory) × MeansHistory text h × ((l : List (Placed Reply)) → IsLinearizationOfWhole (whole_of h) l → ⊥)
IsSound form stats text Undecided printed = Unit {0}
IsSound form stats text Refused printed = Unit {0}

-- So it is of a run that ended with a status: of the text that it read, which is what the source had left where that is known, and
-- of what it printed, by which the bytes written grew from old to new.
abbrev pub IsSoundRun : AnswerForm → Bool → Option (List ℕ) → Option (List ℕ) → Option (List ℕ) → Result Status RunFault → Type 0
IsSoundRun form stats source old new (Ok status) =
    (text : List ℕ) × IfSome source (λ left. text ≡ left) × (printed : List ℕ) × IsSound form stats text status printed × Appends old new printed
IsSoundRun form stats source old new (Err fault) = Unit {0}
