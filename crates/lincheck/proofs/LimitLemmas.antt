-- A history that a text means keeps the limit on objects.
use Rattle.std.proofs.Common.{◌≡◌, ℕ, ◌+◌, ◌<◌, ◌≤◌, Bool, true, false, List, [], ◌∷◌, ◌++◌, length, length-append, map, Option, Some, None, refl, sym, ap, ◌∙◌, subst, arith}
use Rattle.std.specs.Prelude.{if◌then◌else◌, nat_le, not, is_some}
use Rattle.std.proofs.lemmas.Bool.{leb-false}
use Rattle.lin_history.specs.declared.limits.TheConstants.{MAX_OBJECTS}
use Rattle.lin_history.specs.Refusals.{first_that_holds}
use Rattle.lin_history.specs.Recorder.Names.{is_name}
use Rattle.lin_history.specs.Recorder.Recording.{kind_named, index_named}
use Rattle.lin_history.specs.Recorder.RecordedHistory.{RecordedHistory}
use Rattle.lin_text.specs.declared.cause.Cause.{Cause}
use Rattle.lin_text.specs.declared.cause.Cause.TheVariants.{BadObject, Declared, TooManyObjects}
use Rattle.lin_text.specs.Events.{TextEvents, nothing_told, told_after, recording_of}
use Rattle.lin_text.specs.Line.{LineEvent, states, declares, calls, returns_, fails, ends, conditions}
use Rattle.lin_text.specs.Text.{MeansHistory, IsToldBy, AreToldBy, causes_of, refusals_at, event_at, is_blank, lines}

-- a condition of which none holds, and the conditions after it
none_first : {A : Type 0} (c : Bool × A) (cs : List (Bool × A)) → first_that_holds (c ∷ cs) ≡ None → (c.0 ≡ false) × (first_that_holds cs ≡ None)
none_first (true, a) cs e = absurd (cc)
none_first (false, a) cs e = (refl, e)

none_after : {A : Type 0} (xs ys : List (Bool × A)) → first_that_holds (xs ++ ys) ≡ None → first_that_holds ys ≡ None
none_after [] ys e = e
none_after (x ∷ xs) ys e = none_after xs ys (none_first x (xs ++ ys) e).1

-- of three conditions of which none holds, the third
none_third : {A : Type 0} (a b c : Bool) (x y z : A) → first_that_holds ((a, x) ∷ (b, y) ∷ (c, z) ∷ []) ≡ None → c ≡ false
none_third a b c x y z e = (none_first (c, z) [] (none_first (b, y) ((c, z) ∷ []) (none_first (a, x) ((b, y) ∷ (c, z) ∷ []) e).1).1).0

few_told : (told : TextEvents) (event : Option LineEvent) → first_that_holds (refusals_at (recording_of told) event) ≡ None → length told.objects ≤ MAX_OBJECTS → length (told_after told event).objects ≤ MAX_OBJECTS
few_told told None none few = few
few_told told (Some states) none few = few
few_told told (Some (declares name kind start)) none few =
    let full = none_third (not (is_name name)) (is_some (index_named (recording_of told) name)) (nat_le MAX_OBJECTS (length told.objects)) BadObject Declared TooManyObjects none in
    let room : length told.objects < MAX_OBJECTS = leb-false MAX_OBJECTS (length told.objects) full in
    let more = length-append told.objects (record { name = name; kind = kind; start = start } ∷ []) in
    omega (arith, room, more)
few_told told (Some (calls process name op)) none few = few
few_told told (Some (returns_ process name reply)) none few = few
few_told told (Some (fails process name)) none few = few
few_told told (Some (ends process name)) none few = few

few_if : (blank : Bool) (told : TextEvents) (event : Option LineEvent) (long : Bool × Cause) (before : List (Bool × Cause)) (more : TextEvents) → first_that_holds (long ∷ (if blank then [] else before ++ refusals_at (recording_of told) event)) ≡ None → more ≡ (if blank then told else told_after told event) → length told.objects ≤ MAX_OBJECTS → length more.objects ≤ MAX_OBJECTS
few_if true told event long before more sound after few = subst (λ (t : TextEvents). length t.objects ≤ MAX_OBJECTS) (sym after) few
few_if false told event long before more sound after few =
    let none = none_after before (refusals_at (recording_of told) event) (none_first long (before ++ refusals_at (recording_of told) event) sound).1 in
    subst (λ (t : TextEvents). length t.objects ≤ MAX_OBJECTS) (sym after) (few_told told event none few)

few_by : (told : TextEvents) (line : List ℕ) (more : TextEvents) → IsToldBy told line more → length told.objects ≤ MAX_OBJECTS → length more.objects ≤ MAX_OBJECTS
few_by told line more by few = few_if (is_blank line) told (event_at told.format (recording_of told) line) _ (conditions told.format (kind_named (recording_of told)) line) more by.sound by.after few

few_by_all : (told : TextEvents) (ls : List (List ℕ)) (all : TextEvents) → AreToldBy told ls all → length told.objects ≤ MAX_OBJECTS → length all.objects ≤ MAX_OBJECTS
few_by_all told [] all by few = subst (λ (t : TextEvents). length t.objects ≤ MAX_OBJECTS) by few
few_by_all told (line ∷ ls) all by few = few_by_all by.0 ls all by.2 (few_by told line by.0 by.1 few)

pub few_objects : (text : List ℕ) (h : RecordedHistory) → MeansHistory text h → length h.objects ≤ MAX_OBJECTS
few_objects text h means =
    let all = few_by_all nothing_told (lines text) means.told means.lines_tell (omega arith) in
    subst (λ os. length os ≤ MAX_OBJECTS) (sym means.history.objects) all
