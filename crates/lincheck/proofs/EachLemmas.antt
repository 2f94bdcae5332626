-- The statuses of a history's objects, one after another, and their lines.
use Rattle.std.proofs.Common.{◌≡◌, ℕ, zero, suc, ◌+◌, ◌≤◌, Option, IfSome, List, [], ◌∷◌, ◌++◌, drop, length, length-append, append_assoc, append-nil, Some, refl, sym, ap, ◌∙◌, subst, ◌⊎◌, inl, inr, arith, codes}
use Rattle.std.specs.Prelude.{slice_get}
use Rattle.lin_history.specs.Recorder.RecordedHistory.{RecordedHistory}
use Rattle.lin_workers.specs.Bounds.{Bounds}
use Rattle.lincheck.specs.declared.status.Status.{Status}
use Rattle.lincheck.specs.Report.{name_of}
use Rattle.lin_explain.specs.declared.witness_text.Witness.{Witness}
use Rattle.lincheck.specs.Each.{IsStatusOf, AreStatusesOf, IsToldBehind, AreToldFrom, AreWitnessesOf, told_text, status_text, status_lines}
use Rattle.lincheck.specs.Explained.{IsWitness}
use Rattle.lincheck.proofs.ReportLemmas.{dropped_at, over}

-- before the first object
pub statuses_none : (h : RecordedHistory) (bounds : Bounds) → AreStatusesOf h bounds 0 []
statuses_none h bounds = record { count = refl; each = λ object status e. absurd (cc) }

last_is : {A : Type 0} (all : List A) (last : A) (n : ℕ) (one : A) → slice_get (all ++ last ∷ []) n ≡ Some one → (slice_get all n ≡ Some one) ⊎ ((n ≡ length all) × (last ≡ one))
last_is [] last zero one e = inr (refl, cc)
last_is [] last (suc n) one e = absurd (cc)
last_is (x ∷ xs) last zero one e = inl e
last_is (x ∷ xs) last (suc n) one e = elim (last_is xs last n one e) [ inl f ↦ inl f | inr f ↦ inr (omega (arith, f.0), f.1) ]

-- one object more
pub statuses_more : (h : RecordedHistory) (bounds : Bounds) (n : ℕ) (statuses : List Status) (status : Status) → AreStatusesOf h bounds n statuses → IsStatusOf h bounds n status → AreStatusesOf h bounds (n + 1) (statuses ++ status ∷ [])
statuses_more h bounds n statuses status so_far is = record {
  count = length-append statuses (status ∷ []) ∙ ap (λ (k : ℕ). k + 1) so_far.count;
  each = λ object s e. at_place object s (last_is statuses status object s e);
}
  where
    at_place : (object : ℕ) (s : Status) → (slice_get statuses object ≡ Some s) ⊎ ((object ≡ length statuses) × (status ≡ s)) → IsStatusOf h bounds object s
    at_place object s (inl e) = so_far.each object s e
    at_place object s (inr e) =
        let same : object ≡ n = e.0 ∙ so_far.count in
        subst (λ (k : ℕ). IsStatusOf h bounds k s) (sym same) (subst (IsStatusOf h bounds n) e.1 is)

-- nothing is known of none
pub witnesses_none : (h : RecordedHistory) → AreWitnessesOf h []
witnesses_none h object witness e = absurd (cc)

-- what is known of one object more
pub witnesses_more : (h : RecordedHistory) (n : ℕ) (known : List (Option Witness)) (witness : Option Witness) → length known ≡ n → AreWitnessesOf h known → IfSome witness (IsWitness h n) → AreWitnessesOf h (known ++ witness ∷ [])
witnesses_more h n known witness count so_far right object w e = elim (last_is known witness object w e) [
  | inl f ↦ so_far object w f
  | inr f ↦ subst (λ (k : ℕ). IfSome w (IsWitness h k)) (sym (f.0 ∙ count)) (subst (λ (one : Option Witness). IfSome one (IsWitness h n)) f.1 right)
]

-- the lines so far and the lines of what is left are the lines of all
pub record StatusesWritten (h : RecordedHistory) (statuses : List Status) (old out : List ℕ) (i : ℕ) : Type 0 where
  pub lines : out ++ status_lines h i (drop i statuses) ≡ old ++ status_lines h 0 statuses

pub lines_none : (h : RecordedHistory) (statuses : List Status) (old : List ℕ) → StatusesWritten h statuses old old 0
lines_none h statuses old = record { lines = refl }

pub lines_more : (h : RecordedHistory) (statuses : List Status) (old out new : List ℕ) (i : ℕ) (s : Status) → slice_get statuses i ≡ Some s → StatusesWritten h statuses old out i
    → new ≡ out ++ name_of h i ++ codes ": " ++ status_text s ++ codes "\n" → StatusesWritten h statuses old new (i + 1)
lines_more h statuses old out new i s there w e = record {
  lines = rw e (simp append_assoc (simp append_assoc at (rw (dropped_at statuses i s there) at w.lines)));
}

pub lines_all : (h : RecordedHistory) (statuses : List Status) (old out : List ℕ) (i : ℕ) → length statuses ≤ i → StatusesWritten h statuses old out i → out ≡ old ++ status_lines h 0 statuses
lines_all h statuses old out i end w = sym (append-nil out) ∙ rw (over statuses i end) at w.lines

-- ---- with what is told behind them

-- what was written, with the lines of what is left, is what stood there with the lines of all
pub record ToldWritten (h : RecordedHistory) (lines : List ℕ) (statuses : List Status) (old out : List ℕ) (i : ℕ) : Type 0 where
  pub goes_on : (rest : List ℕ) → AreToldFrom h lines i (drop i statuses) rest → (all : List ℕ) × AreToldFrom h lines 0 statuses all × (out ++ rest ≡ old ++ all)

pub told_none : (h : RecordedHistory) (lines : List ℕ) (statuses : List Status) (old : List ℕ) → ToldWritten h lines statuses old old 0
told_none h lines statuses old = record { goes_on = λ rest told. (rest, told, refl) }

pub told_more : (h : RecordedHistory) (lines : List ℕ) (statuses : List Status) (old out new : List ℕ) (i : ℕ) (s : Status) (behind : Witness) → slice_get statuses i ≡ Some s → ToldWritten h lines statuses old out i
    → IsToldBehind h i s behind → new ≡ out ++ told_text h lines i s behind → ToldWritten h lines statuses old new (i + 1)
told_more h lines statuses old out new i s behind there w is e = record { goes_on = goes_on }
  where
    goes_on : (rest : List ℕ) → AreToldFrom h lines (i + 1) (drop (i + 1) statuses) rest → (all : List ℕ) × AreToldFrom h lines 0 statuses all × (new ++ rest ≡ old ++ all)
    goes_on rest told =
        let more = w.goes_on (told_text h lines i s behind ++ rest) (subst (λ (l : List Status). AreToldFrom h lines i l (told_text h lines i s behind ++ rest)) (sym (dropped_at statuses i s there)) (behind, is, rest, told, refl)) in
        (more.0, more.1, ap (λ (l : List ℕ). l ++ rest) e ∙ (append_assoc out (told_text h lines i s behind) rest ∙ more.2))

pub told_all : (h : RecordedHistory) (lines : List ℕ) (statuses : List Status) (old out : List ℕ) (i : ℕ) → length statuses ≤ i → ToldWritten h lines statuses old out i → (all : List ℕ) × AreToldFrom h lines 0 statuses all × (out ≡ old ++ all)
told_all h lines statuses old out i end w =
    let all = w.goes_on [] (subst (λ (l : List Status). AreToldFrom h lines i l []) (sym (over statuses i end)) refl) in
    (all.0, all.1, sym (append-nil out) ∙ all.2)
