-- What is printed of a history that is not linearizable, where it is asked for why.
use Rattle.std.specs.Prelude.{◌≡◌, ℕ, ◌≤◌, ℤ, ◌++◌, IfSome, is_none, false, Option, Some, None, List, map, slice_get}
use Rattle.std.specs.Option.{option_map_or}
use Rattle.lin_object.specs.declared.op.Op.{Op}
use Rattle.lin_object.specs.declared.reply.Reply.{Reply}
use Rattle.lin_object.specs.declared.state.ObjState.{ObjState}
use Rattle.lin_history.specs.declared.locality.placed.Placed.{Placed}
use Rattle.lin_history.specs.Problems.Problem.{Problem}
use Rattle.lin_history.specs.Recorder.RecordedHistory.{RecordedHistory}
use Rattle.lin_history.specs.Recorder.Parts.{part_calls}
use Rattle.lin_history.specs.Locality.RecordedWhole.{part_of}
use Rattle.lin_core.specs.declared.selection.MapKey.{MapKey}
use Rattle.lin_core.specs.declared.sum_faults.SumFault.{SumFault}
use Rattle.lin_core.specs.Cores.{IsCoreOf, returned_of}
use Rattle.lin_core.specs.Sums.{IsSumFault}
use Rattle.lin_explain.specs.declared.core_text.CoreCall.{CoreCall}
use Rattle.lin_explain.specs.declared.sums_text.ShownSums.{ShownSums}
use Rattle.lin_explain.specs.declared.witness_text.Witness.{Witness}
use Rattle.lin_explain.specs.declared.witness_text.Witness.TheVariants.{Nothing, Core, Sums}
use Rattle.lin_explain.specs.CoreText.{last_event}
use Rattle.lin_explain.specs.WitnessText.{witness_text}
use Rattle.lin_explain.specs.RunExplained.{IsExplainedBy}
use Rattle.lincheck.specs.declared.verdict.Verdict.{Verdict}
use Rattle.lincheck.specs.declared.verdict.Verdict.TheVariants.{Yes, No, NoInTime, Undecided}
use Rattle.lincheck.specs.Report.{name_of, name_line, length_line, last_lines, not_found_line, yes_report, no_report, no_report_in_time, undecided_report}

-- The call of this number as the core takes it: pending, if it returned after the event, or was called before the first that counts.
abbrev pub told_in : Problem ObjState Op Reply → Option ℕ → ℕ → ℕ → CoreCall
told_in p from event number = record { call = number; is_pending = option_map_or (λ x. is_none (returned_of from event x.called x.returned)) (slice_get p.calls number) false }

-- These calls of the object, told as pending or not, are a core: alone they have no linearization, where an event is given from right
-- before it on, whatever the object held then. Their last event, which the line below them names, is no later than the one up to
-- which they are a core: so each other call that was called by then may be left out, and none helps (this project's own).
abbrev pub AreOfCore : RecordedHistory → ℕ → Option ℕ → List CoreCall → Type 0
AreOfCore h object from told =
    (event : ℕ) × (key : Option MapKey) × (values : List ℤ) × (kept : List ℕ) × (firsts : List ℕ) × IsCoreOf (part_of h object) from event key values kept firsts × (told ≡ map (told_in (part_of h object) from event) kept) × (last_event (part_of h object).calls 0 told ≤ event)

-- A get for whose reply the adds leave no room, as it is shown.
abbrev pub shown_of : SumFault → ShownSums
shown_of fault = record { from = fault.from; get = fault.get; up = fault.up; base = fault.base; must = fault.must; may = fault.may; bound = fault.bound }

-- What is shown lets a reader see that the object has no order: the calls of a core, or a get of a counter for whose reply the
-- adds leave no room. Where neither was found nothing is said of it.
abbrev pub IsWitness : RecordedHistory → ℕ → Witness → Type 0
IsWitness h object Nothing = Unit {0}
IsWitness h object (Core from told) = AreOfCore h object from told.items
IsWitness h object (Sums shown) = (fault : SumFault) × IsSumFault (part_of h object) fault × (shown ≡ shown_of fault)

-- What is known to let a reader see that does, of the object that the verdict names.
abbrev pub IsWitnessIn : RecordedHistory → Verdict → Option Witness → Type 0
IsWitnessIn h (Yes l) known = Unit {0}
IsWitnessIn h (No object run) known = IfSome known (IsWitness h object)
IsWitnessIn h (NoInTime object) known = IfSome known (IsWitness h object)
IsWitnessIn h (Undecided object) known = Unit {0}

-- Its lines, where the events are on these lines.
abbrev pub witness_text_of : RecordedHistory → ℕ → List ℕ → Witness → List ℕ
witness_text_of h object lines witness = witness_text (name_of h object) (part_calls h object) lines witness

-- What comes before the longest run: the line that names the object, and these lines.
abbrev pub head_text : RecordedHistory → ℕ → List ℕ → Witness → List ℕ
head_text h object lines witness = name_line h object ++ witness_text_of h object lines witness

-- The longest run, of which the last calls are listed, and what says after it why it ends.
abbrev pub end_text : RecordedHistory → ℕ → List (Placed Reply) → List ℕ → List ℕ
end_text h object run why = length_line h object run ++ last_lines h run ++ why

-- The report alone; or, where the lines of the events are given, what shows that there is no order, the last calls of this run, and
-- what says why it ends (this project's own).
abbrev pub WithExplanation : Option (List ℕ) → RecordedHistory → ℕ → List (Placed Reply) → List ℕ → Type 0
WithExplanation None h object run printed = printed ≡ no_report h object run
WithExplanation (Some lines) h object run printed =
    (witness : Witness) × IsWitness h object witness × (why : List ℕ) × IsExplainedBy h object run lines why × (printed ≡ head_text h object lines witness ++ end_text h object run why)

-- The same where that run was not found in time.
abbrev pub WithoutRun : Option (List ℕ) → RecordedHistory → ℕ → List ℕ → Type 0
WithoutRun None h object printed = printed ≡ no_report_in_time h object
WithoutRun (Some lines) h object printed = (witness : Witness) × IsWitness h object witness × (printed ≡ head_text h object lines witness ++ not_found_line)

-- What is printed of a verdict: of one that is no, with what explains it; else the report alone.
abbrev pub IsExplained : Option (List ℕ) → RecordedHistory → Verdict → List ℕ → Type 0
IsExplained lines h (Yes l) printed = printed ≡ yes_report h l
IsExplained lines h (No object run) printed = WithExplanation lines h object run.items printed
IsExplained lines h (NoInTime object) printed = WithoutRun lines h object printed
IsExplained lines h (Undecided object) printed = printed ≡ undecided_report h object
