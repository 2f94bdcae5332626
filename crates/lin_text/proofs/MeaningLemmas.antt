-- A text means one thing at most.
use Rattle.std.proofs.Common.{◌≡◌, ℕ, List, [], ◌∷◌, ◌++◌, length, Option, Some, None, inl, inr, refl, sym, subst, ◌∙◌, arith}
use Rattle.lin_history.specs.Recorder.RecordedHistory.{RecordedHistory}
use Rattle.lin_text.specs.declared.cause.Cause.{Cause}
use Rattle.lin_text.specs.Events.{TextEvents, nothing_told, recording_of, IsHistoryTold}
use Rattle.lin_text.specs.Text.{lines, IsToldBy, AreToldBy, HasCause, MeansHistory, MeansFault}
use Rattle.lin_text.specs.Meaning.{MeaningLaw}

-- ---- what lines tell

-- a line tells one thing after what was told before
told_once : (told : TextEvents) (line : List ℕ) (x y : TextEvents) → IsToldBy told line x → IsToldBy told line y → x ≡ y
told_once told line x y a b = a.after ∙ sym b.after

all_told_once : (told : TextEvents) (ls : List (List ℕ)) (x y : TextEvents) → AreToldBy told ls x → AreToldBy told ls y → x ≡ y
all_told_once told [] x y a b = sym a ∙ b
all_told_once told (line ∷ ls) x y a b =
    all_told_once a.0 ls x y a.2 (subst (λ (t : TextEvents). AreToldBy t ls y) (sym (told_once told line a.0 b.0 a.1 b.1)) b.2)

-- a line that tells something has no cause
no_cause : (told : TextEvents) (line : List ℕ) (more : TextEvents) (cause : Cause) → IsToldBy told line more → HasCause told.format (recording_of told) line cause → ⊥
no_cause told line more cause by has = absurd (let nothing : None ≡ Some cause = sym by.sound ∙ has in cc)

-- where all lines tell something, the line behind some that tell this tells something too
no_cause_in : (told : TextEvents) (before : List (List ℕ)) (line : List ℕ) (after : List (List ℕ)) (all at : TextEvents) (cause : Cause)
    → AreToldBy told (before ++ line ∷ after) all → AreToldBy told before at → HasCause at.format (recording_of at) line cause → ⊥
no_cause_in told [] line after all at cause tell here has =
    no_cause told line tell.0 cause tell.1 (subst (λ (t : TextEvents). HasCause t.format (recording_of t) line cause) (sym here) has)
no_cause_in told (x ∷ xs) line after all at cause tell here has =
    let same : here.0 ≡ tell.0 = told_once told x here.0 tell.0 here.1 tell.1 in
    no_cause_in tell.0 xs line after all at cause tell.2 (subst (λ (t : TextEvents). AreToldBy t xs at) same here.2) has

-- ---- one history

history_is : (h k : RecordedHistory) (objects : h.objects ≡ k.objects) (calls : h.calls ≡ k.calls) (events : h.events ≡ k.events) → h ≡ k
history_is h k objects calls events = λ i. record { objects = objects i; calls = calls i; events = events i }

history_of_told : (told : TextEvents) (h k : RecordedHistory) → IsHistoryTold told h → IsHistoryTold told k → h ≡ k
history_of_told told h k a b =
    history_is h k (a.objects ∙ sym b.objects) (a.events.calls_are ∙ sym b.events.calls_are) (a.events.count ∙ sym b.events.count)

one_history : (text : List ℕ) (h k : RecordedHistory) → MeansHistory text h → MeansHistory text k → h ≡ k
one_history text h k a b =
    let same : b.told ≡ a.told = all_told_once nothing_told (lines text) b.told a.told b.lines_tell a.lines_tell in
    history_of_told a.told h k a.history (subst (λ (t : TextEvents). IsHistoryTold t k) same b.history)

-- ---- not both

not_both : (text : List ℕ) (h : RecordedHistory) (number : ℕ) (cause : Cause) → MeansHistory text h → MeansFault text number cause → ⊥
not_both text h number cause m fault = elim fault [
  | inl long ↦ absurd (omega (arith, m.short, long.0))
  | inr f ↦ (
      let r = f.2 in
      no_cause_in nothing_told r.before f.0 r.after m.told f.1 cause (subst (λ (ls : List (List ℕ)). AreToldBy nothing_told ls m.told) r.place m.lines_tell) r.lines_tell f.3)
]

-- ---- one fault

-- of two faulty lines among the same lines neither comes before the other
one_place : (told : TextEvents) (before after : List (List ℕ)) (line : List ℕ) (at : TextEvents) (c : Cause) (ks ms : List (List ℕ)) (k : List ℕ) (on : TextEvents) (d : Cause)
    → before ++ line ∷ after ≡ ks ++ k ∷ ms
    → AreToldBy told before at → HasCause at.format (recording_of at) line c
    → AreToldBy told ks on → HasCause on.format (recording_of on) k d
    → (length before ≡ length ks) × (c ≡ d)
one_place told [] after line at c [] ms k on d e tell has other had =
    let same : line ≡ k = cc in
    let here : at ≡ on = sym tell ∙ other in
    let both : ◌≡◌ {A = Option Cause} (Some c) (Some d) = sym has ∙ subst (λ (l : List ℕ). HasCause at.format (recording_of at) l d) (sym same) (subst (λ (t : TextEvents). HasCause t.format (recording_of t) k d) (sym here) had) in
    (refl, cc)
one_place told [] after line at c (x ∷ xs) ms k on d e tell has other had =
    let same : line ≡ x = cc in
    absurd (no_cause told x other.0 c other.1 (subst (λ (l : List ℕ). HasCause told.format (recording_of told) l c) same (subst (λ (t : TextEvents). HasCause t.format (recording_of t) line c) (sym tell) has)))
one_place told (x ∷ xs) after line at c [] ms k on d e tell has other had =
    let same : k ≡ x = cc in
    absurd (no_cause told x tell.0 d tell.1 (subst (λ (l : List ℕ). HasCause told.format (recording_of told) l d) same (subst (λ (t : TextEvents). HasCause t.format (recording_of t) k d) (sym other) had)))
one_place told (x ∷ xs) after line at c (y ∷ ys) ms k on d e tell has other had =
    let head : x ≡ y = cc in
    let tail : xs ++ line ∷ after ≡ ys ++ k ∷ ms = cc in
    let by : IsToldBy told x other.0 = subst (λ (l : List ℕ). IsToldBy told l other.0) (sym head) other.1 in
    let same : other.0 ≡ tell.0 = told_once told x other.0 tell.0 by tell.1 in
    let rest = one_place tell.0 xs after line at c ys ms k on d tail tell.2 has (subst (λ (t : TextEvents). AreToldBy t ys on) same other.2) had in
    (omega (arith, rest.0), rest.1)

one_fault : (text : List ℕ) (m n : ℕ) (c d : Cause) → MeansFault text m c → MeansFault text n d → (m ≡ n) × (c ≡ d)
one_fault text m n c d a b = elim a [
  | inl long ↦ elim b [
    | inl other ↦ (long.1 ∙ sym other.1, long.2 ∙ sym other.2)
    | inr g ↦ absurd (omega (arith, long.0, g.2.short))
  ]
  | inr f ↦ elim b [
    | inl other ↦ absurd (omega (arith, other.0, f.2.short))
    | inr g ↦ (
        let r = one_place nothing_told f.2.before f.2.after f.0 f.1 c g.2.before g.2.after g.0 g.1 d (sym f.2.place ∙ g.2.place) f.2.lines_tell f.3 g.2.lines_tell g.3 in
        (omega (arith, f.2.count, g.2.count, r.0), r.1))
  ]
]

pub meaning_law : MeaningLaw
meaning_law = record { one_history = one_history; one_fault = one_fault; not_both = not_both }
