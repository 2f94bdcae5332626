-- What a text prints is sound: at `Yes` there is a linearization, at `No` there is none.
use Rattle.std.proofs.Common.{◌≡◌, ℕ, zero, suc, ◌+◌, ◌<◌, arith, Bool, true, false, List, [], ◌∷◌, ◌++◌, append-nil, length, Option, Some, None, Result, Ok, Err, refl, sym, ◌∙◌, subst, true≢false}
use Rattle.std.specs.Prelude.{slice_get, ◌||◌, if◌then◌else◌}
use Rattle.std.specs.List.{list_any}
use Rattle.lin_object.specs.declared.reply.Reply.{Reply}
use Rattle.lin_object.specs.contracts.state.ObjStatePartialEq.TheImpl.{eq-value as state_eq}
use Rattle.lin_history.specs.declared.locality.placed.Placed.{Placed}
use Rattle.lin_history.specs.Problems.Linearizations.{IsLinearization}
use Rattle.lin_history.specs.Recorder.RecordedHistory.{RecordedHistory}
use Rattle.lin_history.specs.Locality.Whole.{IsLinearizationOfWhole}
use Rattle.lin_history.specs.Locality.RecordedWhole.{whole_of, part_of}
use Rattle.lin_history.specs.Locality.LocalityLaw.{HasEach, HasWhole, LocalityLaw}
use Rattle.lin_history.specs.Locality.LocalityLemmas.{none_of_whole}
use Rattle.lin_text.specs.Text.{MeansHistory}
use Rattle.lin_workers.specs.Bounds.{Bounds}
use Rattle.lin_workers.specs.Options.{Options, bounds_of}
use Rattle.lincheck.specs.declared.answer_form.AnswerForm.{AnswerForm}
use Rattle.lincheck.specs.declared.answer_form.AnswerForm.TheVariants.{Report, Explained, Each, EachExplained}
use Rattle.lincheck.specs.declared.status.Status.{Status}
use Rattle.lincheck.specs.declared.status.Status.TheVariants.{Yes, No, Undecided, Refused}
use Rattle.lincheck.specs.declared.fault.RunFault.{RunFault}
use Rattle.lincheck.specs.Report.{stored_line}
use Rattle.lincheck.specs.Each.{IsStatusOf, is_no, is_undecided}
use Rattle.lincheck.specs.Prints.{WithStats, PrintsWith, PrintsEach, PrintsHistory, Prints}
use Rattle.lincheck.specs.Ran.{RanFrom}
use Rattle.lincheck.specs.Sound.{ReportsLinearization, IsSoundYes, IsSound, IsSoundRun}

abbrev HasNone : RecordedHistory → Type 0
HasNone h = (l : List (Placed Reply)) → IsLinearizationOfWhole (whole_of h) l → ⊥

-- ---- a report

-- what is printed begins with the report
begins : (stats : Bool) (h : RecordedHistory) (judged : ℕ) (report printed : List ℕ) → WithStats stats h judged report printed → (more : List ℕ) × (printed ≡ report ++ more) × (stats ≡ false → more ≡ [])
begins false h judged report printed e = ([], e ∙ sym (append-nil report), λ f. refl)
begins true h judged report printed s = (stored_line (Some s.0), s.2, λ f. absurd (true≢false f))

yes_with : (options : Options) (lines : Option (List ℕ)) (h : RecordedHistory) (printed : List ℕ) → PrintsWith options lines h Yes printed → ReportsLinearization options.stats h printed
yes_with options lines h printed w =
    let yes = w.2.0 in
    let more = begins options.stats h w.0 w.1 printed w.3 in
    (yes.1, yes.4, more.0, subst (λ (r : List ℕ). printed ≡ r ++ more.0) yes.5 more.1, more.2)

no_with : (options : Options) (lines : Option (List ℕ)) (h : RecordedHistory) (printed : List ℕ) → PrintsWith options lines h No printed → HasNone h
no_with options lines h printed w = w.2.2

-- ---- a line for each object

-- one of the statuses is no
some_no : (statuses : List Status) → list_any is_no statuses ≡ true → (object : ℕ) × (slice_get statuses object ≡ Some No)
some_no [] e = absurd (true≢false (sym e))
some_no (No ∷ statuses) e = (zero, refl)
some_no (Yes ∷ statuses) e = let rest = some_no statuses e in (suc rest.0, rest.1)
some_no (Undecided ∷ statuses) e = let rest = some_no statuses e in (suc rest.0, rest.1)
some_no (Refused ∷ statuses) e = let rest = some_no statuses e in (suc rest.0, rest.1)

no_of_all : (no undecided : Bool) → No ≡ (if no then No else if undecided then Undecided else Yes) → no ≡ true
no_of_all true undecided e = refl
no_of_all false true e = absurd (cc)
no_of_all false false e = absurd (cc)

-- none of the statuses is no, and none undecided
yes_of_all : (no undecided : Bool) → Yes ≡ (if no then No else if undecided then Undecided else Yes) → (no ≡ false) × (undecided ≡ false)
yes_of_all true undecided e = absurd (cc)
yes_of_all false true e = absurd (cc)
yes_of_all false false e = (refl, refl)

or_parts : (a b : Bool) → (a || b) ≡ false → (a ≡ false) × (b ≡ false)
or_parts false b e = (refl, e)
or_parts true b e = absurd (true≢false e)

same_some : {A : Type 0} {a b : A} → ◌≡◌ {A = Option A} (Some a) (Some b) → a ≡ b
same_some e = cc

none_is : (p : Status → Bool) (statuses : List Status) (object : ℕ) (status : Status) → list_any p statuses ≡ false → slice_get statuses object ≡ Some status → p status ≡ false
none_is p [] object status e there = absurd (cc)
none_is p (x ∷ xs) zero status e there = subst (λ (s : Status). p s ≡ false) (same_some there) (or_parts (p x) (list_any p xs) e).0
none_is p (x ∷ xs) (suc object) status e there = none_is p xs object status (or_parts (p x) (list_any p xs) e).1 there

status_at : (statuses : List Status) (object : ℕ) → object < length statuses → (status : Status) × (slice_get statuses object ≡ Some status)
status_at [] object within = absurd (omega (arith, within))
status_at (x ∷ xs) zero within = (x, refl)
status_at (x ∷ xs) (suc object) within = status_at xs object (omega (arith, within))

by_status : (h : RecordedHistory) (bounds : Bounds) (object : ℕ) (status : Status) → IsStatusOf h bounds object status → is_no status ≡ false → is_undecided status ≡ false → (l : List ℕ) × IsLinearization (part_of h object) l
by_status h bounds object Yes is f g = is
by_status h bounds object No is f g = absurd (true≢false f)
by_status h bounds object Undecided is f g = absurd (true≢false g)
by_status h bounds object Refused is f g = absurd is

yes_each : (options : Options) (events : Option (List ℕ)) (h : RecordedHistory) (printed : List ℕ) → PrintsEach options events h Yes printed → HasEach h
yes_each options events h printed w object within =
    let clear = yes_of_all (list_any is_no w.statuses) (list_any is_undecided w.statuses) w.together in
    let at = status_at w.statuses object (subst (λ (n : ℕ). object < n) (sym w.are.count) within) in
    by_status h (bounds_of options) object at.0 (w.are.each object at.0 at.1) (none_is is_no w.statuses object at.0 clear.0 at.1) (none_is is_undecided w.statuses object at.0 clear.1 at.1)

no_each : (options : Options) (events : Option (List ℕ)) (h : RecordedHistory) (printed : List ℕ) → PrintsEach options events h No printed → HasNone h
no_each options events h printed w =
    let at = some_no w.statuses (no_of_all (list_any is_no w.statuses) (list_any is_undecided w.statuses) w.together) in
    none_of_whole state_eq.it (whole_of h) at.0 (w.are.each at.0 No at.1)

-- ---- any form

-- where each object of the history that the text means has a linearization, the whole has one
each_and_whole : LocalityLaw → (text : List ℕ) (h : RecordedHistory) → MeansHistory text h → HasEach h → HasEach h × HasWhole h
each_and_whole law text h means each = (each, law.whole h (means.told.events, means.history.events) each)

yes_of : LocalityLaw → (options : Options) (form : AnswerForm) (text : List ℕ) (h : RecordedHistory) (printed : List ℕ) → MeansHistory text h → PrintsHistory options form text h Yes printed → IsSoundYes form options.stats h printed
yes_of law options Report text h printed means w = yes_with options None h printed w
yes_of law options Explained text h printed means w = yes_with options (Some w.0) h printed w.2
yes_of law options Each text h printed means w = each_and_whole law text h means (yes_each options None h printed w)
yes_of law options EachExplained text h printed means w = each_and_whole law text h means (yes_each options (Some w.0) h printed w.2)

no_of : (options : Options) (form : AnswerForm) (text : List ℕ) (h : RecordedHistory) (printed : List ℕ) → PrintsHistory options form text h No printed → HasNone h
no_of options Report text h printed w = no_with options None h printed w
no_of options Explained text h printed w = no_with options (Some w.0) h printed w.2
no_of options Each text h printed w = no_each options None h printed w
no_of options EachExplained text h printed w = no_each options (Some w.0) h printed w.2

sound : LocalityLaw → (options : Options) (form : AnswerForm) (text : List ℕ) (status : Status) (printed : List ℕ) → Prints options form text status printed → IsSound form options.stats text status printed
sound law options form text Yes printed p = (p.0, p.1, yes_of law options form text p.0 printed p.1 p.2)
sound law options form text No printed p = (p.0, p.1, no_of options form text p.0 printed p.2)
sound law options form text Undecided printed p = tt
sound law options form text Refused printed p = tt

-- What a run writes is sound.
pub sound_run : LocalityLaw → (options : Options) (form : AnswerForm) (source old new : Option (List ℕ)) (result : Result Status RunFault) → RanFrom options form source old new result → IsSoundRun form options.stats source old new result
sound_run law options form source old new (Ok status) r = (r.0, r.1, r.2.0, sound law options form r.0 status r.2.0 r.2.1, r.2.2)
sound_run law options form source old new (Err fault) r = tt
