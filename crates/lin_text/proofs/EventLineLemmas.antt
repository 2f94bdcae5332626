-- The lines of the events of a text, as far as it is read.
use Rattle.std.proofs.Common.{◌≡◌, ℕ, zero, suc, ◌+◌, Bool, true, false, Some, None, List, [], ◌∷◌, ◌++◌, length, slice_get, sym, ap, subst, ◌∙◌, length-append, ◌&&◌, IsTrue, arith}
use Rattle.lin_history.specs.Recorder.Recording.{Recording, no_event}
use Rattle.lin_text.specs.declared.line.Format.{Format}
use Rattle.lin_text.specs.Events.{TextEvents, IsTold}
use Rattle.lin_text.specs.Text.{lines, IsToldBy}
use Rattle.lin_text.specs.EventLines.{IsLineOfEvent, AreEventLines, count_with, lines_with}
use Rattle.lin_text.proofs.TextLemmas.{IsMidway, reached}

-- no event has no line
pub no_lines : (text numbers : List ℕ) (r : Recording) → r ≡ no_event → numbers ≡ [] → AreEventLines text r.events numbers
no_lines text numbers r e none = record {
  count = ap (λ (l : List ℕ). length l) none ∙ ap (λ (x : Recording). 0) e ∙ sym (ap (λ (x : Recording). x.events) e);
  each = λ i number there. absurd (let nothing : None ≡ Some number = subst (λ (l : List ℕ). slice_get l i ≡ Some number) none there in cc);
}

-- what holds of each element of a list, and of one more at its place behind it, holds of each of the list with that one
at_end : (P : ℕ → ℕ → Type 0) (xs : List ℕ) (x : ℕ) → ((i y : ℕ) → slice_get xs i ≡ Some y → P i y) → P (length xs) x → (i y : ℕ) → slice_get (xs ++ x ∷ []) i ≡ Some y → P i y
at_end P [] x old new zero y there = let e : x ≡ y = cc in subst (P 0) e new
at_end P [] x old new (suc i) y there = absurd (let nothing : None ≡ Some y = there in cc)
at_end P (z ∷ xs) x old new zero y there = old zero y there
at_end P (z ∷ xs) x old new (suc i) y there = at_end (λ k v. P (suc k) v) xs x (λ j v is. old (suc j) v is) new i y there

-- the line that is read next, where it tells one event more
line_added : (text numbers : List ℕ) (events number : ℕ) → AreEventLines text events numbers → IsLineOfEvent text (events + 1) number → AreEventLines text (events + 1) (numbers ++ number ∷ [])
line_added text numbers events number are is = record {
  count = rw length-append (omega (arith, are.count));
  each = λ i v there.
      at_end (λ k n. IsLineOfEvent text (k + 1) n) numbers number are.each (subst (λ k. IsLineOfEvent text (k + 1) number) (sym are.count) is) i v there;
}

-- with the line that is read next
pub line_noted : (text rest : List ℕ) (number : ℕ) (format after : Format) (r new : Recording) (line more numbers : List ℕ) (is_numbered : Bool) → IsMidway text rest number format r → lines rest ≡ line ∷ lines more
    → ((told : TextEvents) → IsTold told format r → (all : TextEvents) × IsToldBy told line all × IsTold all after new)
    → new.events ≡ count_with r.events is_numbered → AreEventLines text r.events numbers → AreEventLines text new.events (lines_with numbers is_numbered (number + 1))
line_noted text rest number format after r new line more numbers false m cut step count are = subst (λ n. AreEventLines text n numbers) (sym count) are
line_noted text rest number format after r new line more numbers true m cut step count are =
    let s = step m.told m.recording in
    subst (λ n. AreEventLines text n (numbers ++ (number + 1) ∷ [])) (sym count)
    (line_added text numbers r.events (number + 1) are (record {
      line = line;
      told = m.told;
      more = s.0;
      reached = reached text rest number format r line more m cut;
      tells = s.1;
      before = ap (λ n. n + 1) (sym m.recording.events.count);
      with_it = sym s.2.events.count ∙ count;
    }))

-- the same, where lines are noted only if they are wanted
pub line_noted_if : (text rest : List ℕ) (number : ℕ) (format after : Format) (r new : Recording) (line more numbers noted : List ℕ) (wanted is_numbered : Bool) → IsMidway text rest number format r → lines rest ≡ line ∷ lines more
    → ((told : TextEvents) → IsTold told format r → (all : TextEvents) × IsToldBy told line all × IsTold all after new)
    → new.events ≡ count_with r.events is_numbered → (IsTrue wanted → AreEventLines text r.events numbers) → noted ≡ lines_with numbers (wanted && is_numbered) (number + 1)
    → IsTrue wanted → AreEventLines text new.events noted
line_noted_if text rest number format after r new line more numbers noted true is_numbered m cut step count are is w =
    rw is (line_noted text rest number format after r new line more numbers is_numbered m cut step count (are w))
line_noted_if text rest number format after r new line more numbers noted false is_numbered m cut step count are is w = absurd (cc)
