-- The first cause of a line, from the first cause of its value and of its event.
use Rattle.std.proofs.Common.{◌≡◌, ℕ, ◌≤◌, Bool, true, false, nat_lt, cond, List, [], ◌∷◌, ◌++◌, length, map, Option, Some, None, refl, sym, ap, subst, ◌∙◌, arith}
use Rattle.std.proofs.lemmas.Bool.Decides.{nat_tests}
use Rattle.serde_json.specs.Data.{Data}
use Rattle.lin_text.specs.declared.cause.Cause.{Cause}
use Rattle.lin_history.specs.declared.recorder.fault.BuildFault.{BuildFault}
use Rattle.lin_history.specs.Refusals.{first_that_holds}
use Rattle.lin_history.specs.Recorder.Recording.{Recording, kind_named}
use Rattle.lin_text.specs.declared.line.Format.{Format}
use Rattle.lin_text.specs.Causes.{cause_of}
use Rattle.lin_text.specs.Events.{TextEvents, told_with, recording_of, IsTold}
use Rattle.lin_text.proofs.TextLemmas.{recording_told}
use Rattle.lin_text.specs.Line.{LineEvent, conditions_in, IsLineEventIn}
use Rattle.lin_text.specs.declared.text.TheConstants.{MAX_LINE_BYTES}
use Rattle.lin_text.specs.Text.{is_blank, event_at, as_cause, refusals, refusals_at, causes_of, IsRead, HasCause, IsToldBy}

head_some : (t : Bool) (y x : Cause) (r s : Option Cause) → (r ≡ Some x → s ≡ Some x) → cond t (Some y) r ≡ Some x → cond t (Some y) s ≡ Some x
head_some true y x r s h e = e
head_some false y x r s h e = h e

head_none : (t : Bool) (y : Cause) (r s z : Option Cause) → (r ≡ None → s ≡ z) → cond t (Some y) r ≡ None → cond t (Some y) s ≡ z
head_none true y r s z h e = cc
head_none false y r s z h e = h e

pub some_stays : (a b : List (Bool × Cause)) (x : Cause) → first_that_holds a ≡ Some x → first_that_holds (a ++ b) ≡ Some x
some_stays [] b x e = cc
some_stays (c ∷ cs) b x e = head_some c.0 c.1 x (first_that_holds cs) (first_that_holds (cs ++ b)) (some_stays cs b x) e

pub none_passes : (a b : List (Bool × Cause)) → first_that_holds a ≡ None → first_that_holds (a ++ b) ≡ first_that_holds b
none_passes [] b e = refl
none_passes (c ∷ cs) b e = head_none c.0 c.1 (first_that_holds cs) (first_that_holds (cs ++ b)) (first_that_holds b) (none_passes cs b) e

of_value : (format : Format) (r : Recording) (line : List ℕ) (d : Data) → IsRead line d → first_that_holds (causes_of format r line) ≡ first_that_holds (conditions_in format (kind_named r) d ++ refusals_at r (event_at format r line))
of_value format r line d is =
    let test : nat_lt MAX_LINE_BYTES (length line) ≡ false = grind (arith, nat_tests, is.short) in
    rw (test, is.there, is.value) refl

event_is : (format : Format) (r : Recording) (line : List ℕ) (d : Data) (event : LineEvent) → IsRead line d → IsLineEventIn format (kind_named r) d event → event_at format r line ≡ Some event
unfolding event_at
event_is format r line d event is e = rw is.value e.read_as

pub refused_value : (format : Format) (r : Recording) (line : List ℕ) (d : Data) (cause : Cause) → IsRead line d → first_that_holds (conditions_in format (kind_named r) d) ≡ Some cause → HasCause format r line cause
refused_value format r line d cause is e = of_value format r line d is ∙ some_stays (conditions_in format (kind_named r) d) (refusals_at r (event_at format r line)) cause e

mapped_head : (t : Bool) (x : BuildFault) (r : Option BuildFault) (s : Option Cause) → ((fault : BuildFault) → r ≡ Some fault → s ≡ Some (cause_of fault)) → (fault : BuildFault) → cond t (Some x) r ≡ Some fault → cond t (Some (cause_of x)) s ≡ Some (cause_of fault)
mapped_head true x r s h fault e = let same : x ≡ fault = cc in ap (λ f. Some (cause_of f)) same
mapped_head false x r s h fault e = h fault e

-- what the builder's list refuses first, the text's list does
mapped_some : (rs : List (Bool × BuildFault)) (fault : BuildFault) → first_that_holds rs ≡ Some fault → first_that_holds (map as_cause rs) ≡ Some (cause_of fault)
mapped_some [] fault e = absurd (cc)
mapped_some (r ∷ rs) fault e = mapped_head r.0 r.1 (first_that_holds rs) (first_that_holds (map as_cause rs)) (mapped_some rs) fault e

none_head : (t : Bool) (x : BuildFault) (r : Option BuildFault) (s : Option Cause) → (r ≡ None → s ≡ None) → cond t (Some x) r ≡ None → cond t (Some (cause_of x)) s ≡ None
none_head true x r s h e = absurd (cc)
none_head false x r s h e = h e

mapped_none : (rs : List (Bool × BuildFault)) → first_that_holds rs ≡ None → first_that_holds (map as_cause rs) ≡ None
mapped_none [] e = refl
mapped_none (r ∷ rs) e = none_head r.0 r.1 (first_that_holds rs) (first_that_holds (map as_cause rs)) (mapped_none rs) e

pub refused_event : (format : Format) (r : Recording) (line : List ℕ) (d : Data) (event : LineEvent) (fault : BuildFault) → IsRead line d → IsLineEventIn format (kind_named r) d event
    → first_that_holds (refusals r event) ≡ Some fault → HasCause format r line (cause_of fault)
refused_event format r line d event fault is e refused =
    of_value format r line d is ∙ (none_passes (conditions_in format (kind_named r) d) (refusals_at r (event_at format r line)) e.sound ∙ rw (event_is format r line d event is e) (mapped_some (refusals r event) fault refused))

-- what is told with a line that has this event and no cause
pub told_by_event : (told : TextEvents) (format after : Format) (r new : Recording) (line : List ℕ) (d : Data) (event : LineEvent) → IsTold told format r → IsRead line d → IsLineEventIn format (kind_named r) d event
    → first_that_holds (refusals r event) ≡ None → IsTold (told_with told event) after new → (more : TextEvents) × IsToldBy told line more × IsTold more after new
told_by_event told format after r new line d event is read e sound told_now =
    let same = recording_told told format r is in
    let none : first_that_holds (causes_of format r line) ≡ None = of_value format r line d read ∙ (none_passes (conditions_in format (kind_named r) d) (refusals_at r (event_at format r line)) e.sound ∙ rw (event_is format r line d event read e) (mapped_none (refusals r event) sound)) in
    let there : event_at told.format (recording_of told) line ≡ Some event =
    subst (λ (f : Format). event_at f (recording_of told) line ≡ Some event) (sym is.format_is) (subst (λ (k : Recording). event_at format k line ≡ Some event) same (event_is format r line d event read e)) in (
      told_with told event,
      record {
        sound = subst (λ (f : Format). first_that_holds (causes_of f (recording_of told) line) ≡ None) (sym is.format_is) (subst (λ (k : Recording). first_that_holds (causes_of format k line) ≡ None) same none);
        after = rw (read.there, there) refl;
      },
      told_now,
    )

-- what is told with a blank line
pub told_by_blank : (told : TextEvents) (format : Format) (r : Recording) (line : List ℕ) → length line ≤ MAX_LINE_BYTES → is_blank line ≡ true → IsTold told format r → (more : TextEvents) × IsToldBy told line more × IsTold more format r
told_by_blank told format r line short blank is =
    let test : nat_lt MAX_LINE_BYTES (length line) ≡ false = grind (arith, nat_tests, short) in (
      told,
      record { sound = rw (test, blank) refl; after = rw blank refl },
      is,
    )
