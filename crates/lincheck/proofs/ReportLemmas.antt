-- One line more of a report.
use Rattle.std.proofs.Common.{◌≡◌, ℕ, zero, suc, ◌+◌, ◌<◌, ◌≤◌, true, false, List, [], ◌∷◌, ◌++◌, drop, length, Some, refl, sym, ap, ◌∙◌, append_assoc, append-nil, add-one, inl, inr, arith}
use Rattle.std.specs.List.{slice_get}
use Rattle.std.proofs.lemmas.Option.{slice_get_cases}
use Rattle.lin_object.specs.declared.op.Op.{Op}
use Rattle.lin_object.specs.declared.reply.Reply.{Reply}
use Rattle.lin_history.specs.declared.locality.placed.Placed.{Placed}
use Rattle.lin_history.specs.Recorder.Events.{Call}
use Rattle.lin_history.specs.Recorder.RecordedHistory.{RecordedHistory, is_on}
use Rattle.lin_history.specs.Recorder.Views.{count_on}
use Rattle.lin_history.specs.Locality.RecordedWhole.{whole_of}
use Rattle.lin_history.specs.Verifier.Flags.{AreKnown}
use Rattle.lincheck.specs.Report.{call_line, call_lines, dropped_line, dropped_lines, is_placed}

pub dropped_at : {A : Type 0} (xs : List A) (n : ℕ) (x : A) → slice_get xs n ≡ Some x → drop n xs ≡ x ∷ drop (n + 1) xs
dropped_at [] n x e = absurd (cc)
dropped_at {A} (y ∷ ys) zero x e = (let same : y ≡ x = cc in ap (λ (z : A). z ∷ ys) same)
dropped_at (y ∷ ys) (suc n) x e = rw add-one (dropped_at ys n x e ∙ rw add-one refl)

pub over : {A : Type 0} (xs : List A) (i : ℕ) → length xs ≤ i → drop i xs ≡ []
over [] zero h = refl
over [] (suc i) h = refl
over (x ∷ xs) zero h = absurd (omega arith)
over (x ∷ xs) (suc i) h = over xs i (omega arith)

-- the calls of an order are calls of the history
pub call_within : (h : RecordedHistory) (xs : List (Placed Reply)) (i : ℕ) (x : Placed Reply) → AreKnown (whole_of h) xs → slice_get xs i ≡ Some x → x.call < length h.calls
call_within h [] i x known e = absurd (cc)
call_within h (y ∷ ys) zero x known e = let same : y ≡ x = cc in known x.call (inl (ap (λ (z : Placed Reply). z.call) same))
call_within h (y ∷ ys) (suc i) x known e = call_within h ys i x (λ a there. known a (inr there)) e

-- the lines so far and the lines of what is left are the lines of all
pub record CallsWritten (h : RecordedHistory) (order : List (Placed Reply)) (before : ℕ) (old out : List ℕ) (i : ℕ) : Type 0 where
  pub lines : out ++ call_lines h (i + 1) (drop i order) ≡ old ++ call_lines h (before + 1) (drop before order)

pub calls_none : (h : RecordedHistory) (order : List (Placed Reply)) (before : ℕ) (old : List ℕ) → CallsWritten h order before old old before
calls_none h order before old = record { lines = refl }

pub calls_more : (h : RecordedHistory) (order : List (Placed Reply)) (before : ℕ) (old out new : List ℕ) (i : ℕ) (x : Placed Reply) → slice_get order i ≡ Some x → CallsWritten h order before old out i
    → new ≡ out ++ call_line h (i + 1) x.reply (slice_get h.calls x.call) → CallsWritten h order before old new (i + 1)
calls_more h order before old out new i x there w e = record {
  lines = rw (e, append_assoc) (rw (dropped_at order i x there) at w.lines);
}

pub calls_all : (h : RecordedHistory) (order : List (Placed Reply)) (before : ℕ) (old out : List ℕ) (i : ℕ) → length order ≤ i → CallsWritten h order before old out i → out ≡ old ++ call_lines h (before + 1) (drop before order)
calls_all h order before old out i end w = sym (append-nil out) ∙ rw (over order i end) at w.lines

-- ---- the calls that are dropped

pub record DropsWritten (h : RecordedHistory) (order : List (Placed Reply)) (old out : List ℕ) (i : ℕ) : Type 0 where
  pub lines : out ++ dropped_lines h order i (drop i h.calls) ≡ old ++ dropped_lines h order 0 h.calls

pub drops_none : (h : RecordedHistory) (order : List (Placed Reply)) (old : List ℕ) → DropsWritten h order old old 0
drops_none h order old = record { lines = refl }

pub drops_more : (h : RecordedHistory) (order : List (Placed Reply)) (old out new : List ℕ) (i : ℕ) (c : Call Op Reply) → slice_get h.calls i ≡ Some c → DropsWritten h order old out i
    → is_placed order i ≡ false → new ≡ out ++ dropped_line h c → DropsWritten h order old new (i + 1)
drops_more h order old out new i c there w off e = record {
  lines = rw (e, append_assoc) (rw (dropped_at h.calls i c there, off) at w.lines);
}

pub drops_skip : (h : RecordedHistory) (order : List (Placed Reply)) (old out : List ℕ) (i : ℕ) (c : Call Op Reply) → slice_get h.calls i ≡ Some c → DropsWritten h order old out i
    → is_placed order i ≡ true → DropsWritten h order old out (i + 1)
drops_skip h order old out i c there w on = record {
  lines = rw (dropped_at h.calls i c there, on) at w.lines;
}

pub drops_all : (h : RecordedHistory) (order : List (Placed Reply)) (old out : List ℕ) (i : ℕ) → length h.calls ≤ i → DropsWritten h order old out i → out ≡ old ++ dropped_lines h order 0 h.calls
drops_all h order old out i end w = sym (append-nil out) ∙ rw (over h.calls i end) at w.lines

-- the call of an index of the history
pub call_at : (h : RecordedHistory) (i : ℕ) → i < length h.calls → (c : Call Op Reply) × (slice_get h.calls i ≡ Some c)
call_at h i within = elim (slice_get_cases h.calls i).1 [ inl k ↦ (k.0, k.2) | inr k ↦ absurd (let past = k.0 in omega (arith, within, past)) ]

-- ---- how many calls are on an object

pub record Counted (h : RecordedHistory) (object count i : ℕ) : Type 0 where
  pub so_far : count + count_on object (drop i h.calls) ≡ count_on object h.calls
  pub bound : count ≤ i

pub counted_none : (h : RecordedHistory) (object : ℕ) → Counted h object 0 0
counted_none h object = record { so_far = omega arith; bound = omega arith }

pub counted_more : (h : RecordedHistory) (object count i : ℕ) (c : Call Op Reply) → slice_get h.calls i ≡ Some c → Counted h object count i → is_on object c ≡ true → Counted h object (count + 1) (i + 1)
counted_more h object count i c there k on =
    let so_far = rw (dropped_at h.calls i c there, on) at k.so_far in
    let bound = k.bound in
    record { so_far = omega (arith, so_far); bound = omega (arith, bound) }

pub counted_skip : (h : RecordedHistory) (object count i : ℕ) (c : Call Op Reply) → slice_get h.calls i ≡ Some c → Counted h object count i → is_on object c ≡ false → Counted h object count (i + 1)
counted_skip h object count i c there k off =
    let so_far = rw (dropped_at h.calls i c there, off) at k.so_far in
    let bound = k.bound in
    record { so_far = so_far; bound = omega (arith, bound) }

pub counted_all : (h : RecordedHistory) (object count i : ℕ) → length h.calls ≤ i → Counted h object count i → count ≡ count_on object h.calls
counted_all h object count i end k =
    let so_far = rw (over h.calls i end) at k.so_far in omega (arith, so_far)
