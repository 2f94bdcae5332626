-- What is printed of what was read is printed of the text.
use Rattle.std.proofs.Common.{◌≡◌, ℕ, ◌+◌, ◌<◌, ◌≤◌, List, [], ◌∷◌, length, length-append, take, Option, Some, None, IfSome, Result, Ok, Err, OnOk, OnErr, Bool, true, false, inl, inr, refl, sym, ap, subst, ◌∙◌, arith}
use Rattle.std.proofs.lemmas.Option.{slice_get_within}
use Rattle.lin_object.specs.declared.reply.Reply.{Reply}
use Rattle.lin_object.specs.declared.state.ObjState.{ObjState}
use Rattle.lin_history.specs.declared.locality.placed.Placed.{Placed}
use Rattle.lin_history.specs.Recorder.RecordedHistory.{RecordedHistory}
use Rattle.lin_history.specs.Locality.Whole.{Replays, with_state}
use Rattle.lin_history.specs.Locality.JoinedOrder.{Places}
use Rattle.lin_history.specs.Locality.RecordedWhole.{whole_of, start_at}
use Rattle.lin_text.specs.declared.cause.Cause.{Cause}
use Rattle.lin_text.specs.EventLines.{AreEventLines}
use Rattle.lin_text.specs.Text.{MeansHistory, MeansFault}
use Rattle.lin_workers.specs.Bounds.{Bounds}
use Rattle.lin_workers.specs.Options.{Options, bounds_of}
use Rattle.lincheck.specs.declared.answer_form.AnswerForm.{AnswerForm}
use Rattle.lincheck.specs.declared.answer_form.AnswerForm.TheVariants.{Report, Explained, Each, EachExplained}
use Rattle.lincheck.specs.declared.status.Status.{Status}
use Rattle.lincheck.specs.declared.status.Status.TheVariants.{Yes, No, Undecided, Refused}
use Rattle.lincheck.specs.declared.verdict.Verdict.{Verdict}
use Rattle.lincheck.specs.declared.verdict.Verdict.TheVariants as verdicts
use Rattle.lincheck.specs.Reading.{IsReadOf}
use Rattle.lin_history.specs.Verifier.Flags.{AreKnown}
use Rattle.lincheck.specs.Verdict.{IsVerdict, IsOf, report_of}
use Rattle.std.specs.Io.KnownBytes.{Appends}
use Rattle.lincheck.specs.declared.fault.RunFault.{RunFault}
use Rattle.lincheck.specs.declared.fault.RunFault.TheVariants.{Read, Write, Memory}
use Rattle.lincheck.proofs.Bytes.{kept}
use Rattle.lin_history.specs.declared.limits.TheConstants.{MAX_OBJECTS}
use Rattle.lincheck.specs.Report.{with_stats}
use Rattle.lincheck.specs.Explained.{IsExplained}
use Rattle.std.specs.List.{list_any}
use Rattle.std.specs.Prelude.{if◌then◌else◌}
use Rattle.lincheck.specs.Each.{is_no, is_undecided}
use Rattle.lincheck.specs.Stored.{IsStoredTold, judged_of}
use Rattle.lincheck.specs.Prints.{IsReport, WithStats, PrintsWith, PrintsEach, PrintsHistory, Prints, status_of}
use Rattle.std.specs.Result.{result_map_both, is_err}
use Rattle.lincheck.specs.Ran.{is_read, is_write, is_fault, RanFrom}

means_history : (text read : List ℕ) (h : RecordedHistory) → IsReadOf text read → MeansHistory read h → MeansHistory text h
means_history text read h (inl same) m = subst (λ (t : List ℕ). MeansHistory t h) (sym same) m
means_history text read h (inr long) m = absurd (let s = m.short in let l = long.0 in omega (arith, s, l))

means_fault : (text read : List ℕ) (line : ℕ) (cause : Cause) → IsReadOf text read → MeansFault read line cause → MeansFault text line cause
means_fault text read line cause (inl same) m = subst (λ (t : List ℕ). MeansFault t line cause) (sym same) m
means_fault text read line cause (inr long) (inl m) =
    let l = long.0 in
    let n : length text ≡ length read + length long.1.0 = ap length long.1.1 ∙ length-append read long.1.0 in
    inl (omega (arith, l, n), m.1, m.2)
means_fault text read line cause (inr long) (inr m) = absurd (let s = m.2.short in let l = long.0 in omega (arith, s, l))

-- what a history prints whose text was read
prints_history_read : (options : Options) (form : AnswerForm) (text read : List ℕ) (h : RecordedHistory) (status : Status) (printed : List ℕ) → IsReadOf text read → MeansHistory read h → PrintsHistory options form read h status printed → PrintsHistory options form text h status printed
prints_history_read options form text read h status printed (inl same) m p = subst (λ (t : List ℕ). PrintsHistory options form t h status printed) (sym same) p
prints_history_read options form text read h status printed (inr long) m p = absurd (let s = m.short in let l = long.0 in omega (arith, s, l))

pub prints_read : (options : Options) (form : AnswerForm) (text read : List ℕ) (status : Status) (printed : List ℕ) → IsReadOf text read → Prints options form read status printed → Prints options form text status printed
prints_read options form text read Yes printed r p = (p.0, means_history text read p.0 r p.1, prints_history_read options form text read p.0 Yes printed r p.1 p.2)
prints_read options form text read No printed r p = (p.0, means_history text read p.0 r p.1, prints_history_read options form text read p.0 No printed r p.1 p.2)
prints_read options form text read Undecided printed r p = (p.0, means_history text read p.0 r p.1, prints_history_read options form text read p.0 Undecided printed r p.1 p.2)
prints_read options form text read Refused printed r p = (p.0, means_fault text read p.0.line p.0.cause r p.1, p.2)

-- the calls of a list are known where its first and the rest are
known_more : (h : RecordedHistory) (x : Placed Reply) (xs : List (Placed Reply)) → x.call < length h.calls → AreKnown (whole_of h) xs → AreKnown (whole_of h) (x ∷ xs)
known_more h x xs first rest a there = elim there [
  | inl same ↦ subst (λ (n : ℕ). n < length h.calls) same first
  | inr more ↦ rest a more
]

replayed_known : (h : RecordedHistory) (states : ℕ → ObjState) (l : List (Placed Reply)) → Replays (whole_of h) states l → AreKnown (whole_of h) l
replayed_known h states [] r = λ a there. absurd there
replayed_known h states (x ∷ xs) r = known_more h x xs (slice_get_within h.calls x.call r.0 r.2.call) (replayed_known h (with_state (whole_of h) states r.0.object r.1) xs r.3)

placed_known : (h : RecordedHistory) (object : ℕ) (s : ObjState) (order : List ℕ) (l : List (Placed Reply)) → Places (whole_of h) object s order l → AreKnown (whole_of h) l
placed_known h object s [] [] p = λ a there. absurd there
placed_known h object s (c ∷ cs) (x ∷ xs) p = known_more h x xs (slice_get_within h.calls x.call p.1.0 p.1.2.call) (placed_known h object p.1.1 cs xs p.1.3)
placed_known h object s [] (x ∷ xs) p = absurd p
placed_known h object s (c ∷ cs) [] p = absurd p

-- a right verdict names calls and objects of the history
pub verdict_of : (h : RecordedHistory) (bounds : Bounds) (v : Verdict) → IsVerdict h bounds v → IsOf h v
verdict_of h bounds (verdicts.Yes l) v = replayed_known h (start_at h) l v.1.legal
verdict_of h bounds (verdicts.No object run) v = (v.0.0.declared, placed_known h object (start_at h object) v.0.1.order run.items v.0.1.placed)
verdict_of h bounds (verdicts.NoInTime object) v = v.0.0.declared
verdict_of h bounds (verdicts.Undecided object) v = v.declared

-- the report of a right verdict, with what is told after it, is the report of the history
report_of_verdict : (lines : Option (List ℕ)) (h : RecordedHistory) (bounds : Bounds) (v : Verdict) (printed : List ℕ) → IsVerdict h bounds v → IsExplained lines h v printed → IsReport lines bounds h (status_of v) (judged_of h v) printed
report_of_verdict lines h bounds (verdicts.Yes l) printed v e = ((v.0.0, l, v.0.1, v.0.2, v.1, e), refl)
report_of_verdict lines h bounds (verdicts.No object run) printed v e = (object, inl (run.items, v.0.0, v.0.1, e), v.1, refl)
report_of_verdict lines h bounds (verdicts.NoInTime object) printed v e = (object, inr (v.0.0, v.0.1, e), v.1, refl)
report_of_verdict lines h bounds (verdicts.Undecided object) printed v e = (object, (v, e), refl)

-- where no lines are given, it is the report
pub explained_not : (h : RecordedHistory) (v : Verdict) (printed : List ℕ) → printed ≡ report_of h v → IsExplained None h v printed
explained_not h (verdicts.Yes l) printed e = e
explained_not h (verdicts.No object run) printed e = e
explained_not h (verdicts.NoInTime object) printed e = e
explained_not h (verdicts.Undecided object) printed e = e

-- no more objects are judged than there are
pub judged_few : (h : RecordedHistory) (bounds : Bounds) (v : Verdict) (most : ℕ) → IsVerdict h bounds v → length h.objects ≤ most → judged_of h v ≤ most
judged_few h bounds (verdicts.Yes l) most v few = few
judged_few h bounds (verdicts.No object run) most v few = let d = v.0.0.declared in omega (arith, d, few)
judged_few h bounds (verdicts.NoInTime object) most v few = let d = v.0.0.declared in omega (arith, d, few)
judged_few h bounds (verdicts.Undecided object) most v few = let d = v.declared in omega (arith, d, few)

-- the statistics, where the number is told
pub stats_told : (stats : Bool) (h : RecordedHistory) (n : ℕ) (stored : Option ℕ) (report printed : List ℕ) → printed ≡ with_stats stats stored report → IsStoredTold h n stored → n ≤ MAX_OBJECTS → WithStats stats h n report printed
stats_told false h n stored report printed e told few = e
stats_told true h n (Some stored) report printed e told few = (stored, told.is_sum, e)
stats_told true h n None report printed e told few = absurd (let q = told.is_told few in cc)

-- and the history prints it, with the statistics after it
pub prints_verdict : (h : RecordedHistory) (options : Options) (lines : Option (List ℕ)) (v : Verdict) (told printed : List ℕ) → IsVerdict h (bounds_of options) v → IsExplained lines h v told → WithStats options.stats h (judged_of h v) told printed → PrintsWith options lines h (status_of v) printed
prints_verdict h options lines v told printed right why stats = (judged_of h v, told, report_of_verdict lines h (bounds_of options) v told right why, stats)

-- what the history prints is what the text prints that means it
pub prints_report : (text : List ℕ) (h : RecordedHistory) (options : Options) (status : Status) (printed : List ℕ) → MeansHistory text h → PrintsWith options None h status printed → Prints options Report text status printed
prints_report text h options Yes printed m p = (h, m, p)
prints_report text h options No printed m p = (h, m, p)
prints_report text h options Undecided printed m p = (h, m, p)
prints_report text h options Refused printed m p = absurd p.2

pub prints_explained : (text : List ℕ) (h : RecordedHistory) (lines : List ℕ) (options : Options) (status : Status) (printed : List ℕ) → MeansHistory text h → AreEventLines text h.events lines → PrintsWith options (Some lines) h status printed → Prints options Explained text status printed
prints_explained text h lines options Yes printed m are p = (h, m, (lines, are, p))
prints_explained text h lines options No printed m are p = (h, m, (lines, are, p))
prints_explained text h lines options Undecided printed m are p = (h, m, (lines, are, p))
prints_explained text h lines options Refused printed m are p = absurd p.2

-- the same with a line for each object
some_status : (no undecided : Bool) → Refused ≡ (if no then No else if undecided then Undecided else Yes) → ⊥
some_status true undecided e = cc
some_status false true e = cc
some_status false false e = cc

pub prints_each : (text : List ℕ) (h : RecordedHistory) (options : Options) (status : Status) (printed : List ℕ) → MeansHistory text h → PrintsEach options None h status printed → Prints options Each text status printed
prints_each text h options Yes printed m p = (h, m, p)
prints_each text h options No printed m p = (h, m, p)
prints_each text h options Undecided printed m p = (h, m, p)
prints_each text h options Refused printed m p = absurd (some_status (list_any is_no p.statuses) (list_any is_undecided p.statuses) p.together)

pub prints_each_explained : (text : List ℕ) (h : RecordedHistory) (lines : List ℕ) (options : Options) (status : Status) (printed : List ℕ) → MeansHistory text h → AreEventLines text h.events lines → PrintsEach options (Some lines) h status printed → Prints options EachExplained text status printed
prints_each_explained text h lines options Yes printed m are p = (h, m, (lines, are, p))
prints_each_explained text h lines options No printed m are p = (h, m, (lines, are, p))
prints_each_explained text h lines options Undecided printed m are p = (h, m, (lines, are, p))
prints_each_explained text h lines options Refused printed m are p = absurd (some_status (list_any is_no p.statuses) (list_any is_undecided p.statuses) p.together)

-- ---- a run on what was read

ran_ok : (options : Options) (form : AnswerForm) (source old new : Option (List ℕ)) (read : List ℕ) (status : Status) (printed : List ℕ) → IfSome source (λ text. IsReadOf text read) → Prints options form read status printed → Appends old new printed → RanFrom options form source old new (Ok status)
ran_ok options form None old new read status printed r p a = (read, tt, (printed, p, a))
ran_ok options form (Some text) old new read status printed r p a = (text, refl, (printed, prints_read options form text read status printed r p, a))

ran_write : (options : Options) (form : AnswerForm) (source old new : Option (List ℕ)) (read : List ℕ) (status : Status) (printed : List ℕ) → IfSome source (λ text. IsReadOf text read) → Prints options form read status printed → ((n : ℕ) × Appends old new (take n printed)) → RanFrom options form source old new (Err Write)
ran_write options form None old new read status printed r p a = (read, tt, (status, printed, a.0, p, a.1))
ran_write options form (Some text) old new read status printed r p a = (text, refl, (status, printed, a.0, prints_read options form text read status printed r p, a.1))

-- what the source had left, or no byte where that is not known
text_left : (source : Option (List ℕ)) → (text : List ℕ) × IfSome source (λ left. text ≡ left)
text_left None = ([], tt)
text_left (Some text) = (text, refl)

-- a run that ended before the first write
pub ran_nothing : (options : Options) (form : AnswerForm) (source old : Option (List ℕ)) (fault : RunFault) → (fault ≡ Write → ⊥) → RanFrom options form source old old (Err fault)
ran_nothing options form source old Write other = absurd (other refl)
ran_nothing options form source old Read other = let left = text_left source in (left.0, left.1, kept old)
ran_nothing options form source old Memory other = let left = text_left source in (left.0, left.1, kept old)

-- a run whose answer was written so
pub ran_ended : {A E : Type 0} (options : Options) (form : AnswerForm) (source old new : Option (List ℕ)) (read : List ℕ) (status : Status) (printed : List ℕ) (written : Result A E) → IfSome source (λ text. IsReadOf text read) → Prints options form read status printed → OnOk written (Appends old new printed) → OnErr written ((n : ℕ) × Appends old new (take n printed)) → RanFrom options form source old new (result_map_both (λ (x : A). status) (λ (e : E). Write) written)
ran_ended options form source old new read status printed (Ok x) r p ok err = ran_ok options form source old new read status printed r p ok
ran_ended options form source old new read status printed (Err e) r p ok err = ran_write options form source old new read status printed r p err

-- no answer that was written so is a failed read; it is a failed write where the write failed
pub no_read : {A E : Type 0} (status : Status) (written : Result A E) → is_fault is_read (result_map_both (λ (x : A). status) (λ (e : E). Write) written) ≡ false
no_read status (Ok x) = refl
no_read status (Err e) = refl

pub is_written : {A E : Type 0} (status : Status) (written : Result A E) → is_fault is_write (result_map_both (λ (x : A). status) (λ (e : E). Write) written) ≡ is_err written
is_written status (Ok x) = refl
is_written status (Err e) = refl
