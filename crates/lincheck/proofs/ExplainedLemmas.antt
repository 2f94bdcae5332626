-- What is printed where it is asked for why, piece by piece.
use Rattle.std.proofs.Common.{◌≡◌, ℕ, ◌+◌, ◌≤◌, ℤ, List, [], ◌++◌, map, Option, Some, codes, refl, sym, subst, ap, ◌∙◌, append_assoc, arith}
use Rattle.std.specs.Prelude.{Vec, IfSome}
use Rattle.std.specs.declared.alloc.Global.{Global}
use Rattle.std.specs.List.{slice_get}
use Rattle.lin_object.specs.declared.op.Op.{Op}
use Rattle.lin_object.specs.declared.reply.Reply.{Reply}
use Rattle.lin_object.specs.declared.state.ObjState.{ObjState}
use Rattle.lin_history.specs.declared.locality.placed.Placed.{Placed}
use Rattle.lin_history.specs.declared.problems.problem.ProblemCall.{ProblemCall}
use Rattle.lin_history.specs.Problems.Problem.{Problem}
use Rattle.lin_history.specs.Recorder.RecordedHistory.{DeclaredObject, RecordedHistory}
use Rattle.lin_history.specs.Recorder.Parts.{part_calls}
use Rattle.lin_history.specs.Locality.RecordedWhole.{whole_of, part_of}
use Rattle.lin_history.specs.Verifier.Flags.{AreKnown}
use Rattle.lin_core.specs.declared.selection.MapKey.{MapKey}
use Rattle.lin_core.specs.declared.sum_faults.SumFault.{SumFault}
use Rattle.lin_core.specs.Cores.{IsCoreOf}
use Rattle.lin_core.specs.Sums.{IsSumFault}
use Rattle.lin_explain.specs.declared.core_text.CoreCall.{CoreCall}
use Rattle.lin_explain.specs.declared.witness_text.Witness.{Witness}
use Rattle.lin_explain.specs.CoreText.{last_event}
use Rattle.lin_explain.specs.WitnessText.{witness_text}
use Rattle.lin_workers.specs.Bounds.{Bounds}
use Rattle.lincheck.specs.declared.status.Status.{Status}
use Rattle.lincheck.specs.declared.verdict.Verdict.{Verdict}
use Rattle.lincheck.specs.declared.verdict.Verdict.TheVariants.{Yes, No, NoInTime, Undecided}
use Rattle.lincheck.specs.Each.{status_text, told_text}
use Rattle.lincheck.specs.Explained.{told_in, AreOfCore, IsWitness, IsWitnessIn, WithExplanation, IsExplained, witness_text_of, head_text}
use Rattle.lincheck.specs.Report.{name_of, name_line}
use Rattle.lincheck.specs.Stored.{judged_of}
use Rattle.lincheck.specs.Verdict.{IsVerdict, IsOf}
use Rattle.lincheck.proofs.LastEventLemmas.{ends_by_event}
use Rattle.lincheck.proofs.JudgeLemmas.{IsPart, at_part, searched}
use Rattle.lincheck.proofs.PrintLemmas.{verdict_of}

-- three pieces, one behind another
pub three_behind : (old a b c first second new : List ℕ) → first ≡ old ++ a → second ≡ first ++ b → new ≡ second ++ c → new ≡ old ++ ((a ++ b) ++ c)
three_behind old a b c first second new is_first is_second is_new = rw (is_new, is_second, is_first) (ap (λ (l : List ℕ). l ++ c) (append_assoc old a b) ∙ append_assoc old (a ++ b) c)

-- two, of which nothing stands before the first
pub both_behind : (old a b first new : List ℕ) → old ≡ [] → first ≡ old ++ a → new ≡ first ++ b → new ≡ a ++ b
both_behind old a b first new none is_first is_new = rw (is_new, is_first, none) refl

-- the name of an object of a history
pub name_is : (h : RecordedHistory) (object : ℕ) (d : DeclaredObject) → slice_get h.objects object ≡ Some d → d.name ≡ name_of h object
name_is h object d there = rw there refl

-- the lines of what is known of an object
texts_same : (h : RecordedHistory) (object : ℕ) (lines name : List ℕ) (calls : List (ProblemCall Op Reply)) (told : Witness) → name ≡ name_of h object → calls ≡ part_calls h object → witness_text name calls lines told ≡ witness_text_of h object lines told
texts_same h object lines name calls told named are = ap (λ (n : List ℕ). witness_text n calls lines told) named ∙ ap (λ (l : List (ProblemCall Op Reply)). witness_text (name_of h object) l lines told) are

-- the line that names the object, and these lines behind it
pub head_behind : (h : RecordedHistory) (object : ℕ) (lines name : List ℕ) (calls : List (ProblemCall Op Reply)) (told : Witness) (old first new : List ℕ) → name ≡ name_of h object → calls ≡ part_calls h object
    → first ≡ old ++ name_line h object → new ≡ first ++ witness_text name calls lines told → new ≡ old ++ head_text h object lines told
head_behind h object lines name calls told old first new named are is_first is_new =
    is_new ∙ ap (λ (l : List ℕ). l ++ witness_text name calls lines told) is_first ∙ append_assoc old (name_line h object) (witness_text name calls lines told)
    ∙ ap (λ (l : List ℕ). old ++ (name_line h object ++ l)) (texts_same h object lines name calls told named are)

-- that, at the begin of what is printed, and what comes behind it
pub head_first : (h : RecordedHistory) (object : ℕ) (lines : List ℕ) (told : Witness) (rest old first new : List ℕ) → old ≡ [] → first ≡ old ++ head_text h object lines told → new ≡ first ++ rest → new ≡ head_text h object lines told ++ rest
head_first h object lines told rest old first new none is_first is_new = both_behind old (head_text h object lines told) rest first new none is_first is_new

-- the calls of the run of a right verdict are known
pub run_known : (h : RecordedHistory) (bounds : Bounds) (v : Verdict) (object : ℕ) (run : Vec (Placed Reply) Global) (slice : List (Placed Reply)) → v ≡ No object run → slice ≡ run.items → IsVerdict h bounds v → AreKnown (whole_of h) slice
run_known h bounds v object run slice is same right =
    let known : IsOf h (No object run) = verdict_of h bounds (No object run) (subst (IsVerdict h bounds) is right) in
    subst (AreKnown (whole_of h)) (sym same) known.1

-- what is printed of the run of a verdict is printed of the verdict
pub explained_no : (lines : List ℕ) (h : RecordedHistory) (v : Verdict) (object : ℕ) (run : Vec (Placed Reply) Global) (slice : List (Placed Reply)) (printed : List ℕ) → v ≡ No object run → slice ≡ run.items → WithExplanation (Some lines) h object slice printed → IsExplained (Some lines) h v printed
explained_no lines h v object run slice printed is same explained =
    subst (λ (w : Verdict). IsExplained (Some lines) h w printed) (sym is) (subst (λ (l : List (Placed Reply)). WithExplanation (Some lines) h object l printed) same explained)

-- the line of an object's status, and what is told behind it
pub told_behind : (h : RecordedHistory) (object : ℕ) (lines name : List ℕ) (calls : List (ProblemCall Op Reply)) (status : Status) (told : Witness) (old first new : List ℕ) → name ≡ name_of h object → calls ≡ part_calls h object
    → old ≡ [] → first ≡ old ++ name_of h object ++ codes ": " ++ status_text status ++ codes "\n" → new ≡ first ++ witness_text name calls lines told → new ≡ told_text h lines object status told
told_behind h object lines name calls status told old first new named are none is_first is_new =
    is_new ∙ ap (λ (l : List ℕ). l ++ witness_text name calls lines told) (is_first ∙ ap (λ (l : List ℕ). l ++ name_of h object ++ codes ": " ++ status_text status ++ codes "\n") none)
    ∙ ap (λ (l : List ℕ). (name_of h object ++ codes ": " ++ status_text status ++ codes "\n") ++ l) (texts_same h object lines name calls told named are)

-- a core of the problem is one of the part of the history
pub core_told : (h : RecordedHistory) (object : ℕ) (calls : List (ProblemCall Op Reply)) (start : ObjState) (from : Option ℕ) (event : ℕ) (key : Option MapKey) (values : List ℤ) (kept firsts : List ℕ) (told : List CoreCall) → IsPart h object calls start
    → IsCoreOf (searched calls start) from event key values kept firsts → told ≡ map (told_in (searched calls start) from event) kept → AreOfCore h object from told
core_told h object calls start from event key values kept firsts told part core are =
    let ends : last_event calls 0 told ≤ event = ends_by_event (searched calls start) from event key values kept firsts told core are in (
      event,
      key,
      values,
      kept,
      firsts,
      at_part h object calls start part (λ p. IsCoreOf p from event key values kept firsts) core,
      at_part h object calls start part (λ (p : Problem ObjState Op Reply). told ≡ map (told_in p from event) kept) are,
      at_part h object calls start part (λ (p : Problem ObjState Op Reply). last_event p.calls 0 told ≤ event) ends,
    )

-- so is a get for whose reply the adds leave no room
pub sums_told : (h : RecordedHistory) (object : ℕ) (calls : List (ProblemCall Op Reply)) (start : ObjState) (fault : SumFault) → IsPart h object calls start → IsSumFault (searched calls start) fault → IsSumFault (part_of h object) fault
sums_told h object calls start fault part known = at_part h object calls start part (λ p. IsSumFault p fault) known

-- one more than two numbers is the same
same_object : (a b : ℕ) → a + 1 ≡ b + 1 → a ≡ b
same_object a b e = omega (arith, e)

-- what is known of an object is known of the one that the verdict names
pub witness_in : (h : RecordedHistory) (v : Verdict) (object : ℕ) (known : Option Witness) → judged_of h v ≡ object + 1 → IfSome known (IsWitness h object) → IsWitnessIn h v known
witness_in h (Yes l) object known named right = tt
witness_in h (No other run) object known named right = subst (λ (n : ℕ). IfSome known (IsWitness h n)) (sym (same_object other object named)) right
witness_in h (NoInTime other) object known named right = subst (λ (n : ℕ). IfSome known (IsWitness h n)) (sym (same_object other object named)) right
witness_in h (Undecided other) object known named right = tt
