-- Over the lines of a text, one after another.
use Rattle.std.proofs.Common.{◌≡◌, ℕ, ◌+◌, ◌<◌, ◌≤◌, List, [], ◌∷◌, ◌++◌, length, refl, ap, ◌∙◌, append_assoc, length-append, arith}
use Rattle.lin_object.specs.declared.op.Op.{Op}
use Rattle.lin_object.specs.declared.reply.Reply.{Reply}
use Rattle.lin_history.specs.Recorder.Events.{Event}
use Rattle.lin_history.specs.Recorder.RecordedHistory.{RecordedHistory, IsHistoryOf}
use Rattle.lin_history.specs.Recorder.Recording.{Recording, IsRecordingOf, history_of, no_event}
use Rattle.lin_text.specs.declared.line.Format.{Format}
use Rattle.lin_text.specs.declared.line.Format.TheVariants.{Unstated}
use Rattle.lin_text.specs.declared.text.TheConstants.{MAX_INPUT_BYTES}
use Rattle.lin_text.specs.Events.{TextEvents, nothing_told, recording_of, IsTold}
use Rattle.lin_text.specs.Text.{lines, IsToldBy, AreToldBy, MeansHistory, MeansRecording, IsReached}
use Rattle.lin_text.proofs.LineLemmas.{lines_nil, append_nil}

-- a recording is told by what its events and objects tell of it
pub recording_told : (told : TextEvents) (format : Format) (r : Recording) → IsTold told format r → r ≡ recording_of told
recording_told told format r is = rw (← is.objects, ← is.events.made_are, ← is.events.count) refl

pub told_push : (told more all : TextEvents) (before : List (List ℕ)) (line : List ℕ) → AreToldBy told before more → IsToldBy more line all → AreToldBy told (before ++ line ∷ []) all
told_push told more all [] line e step = (all, rw e step, refl)
told_push told more all (x ∷ xs) line tell step = (tell.0, tell.1, told_push tell.0 more all xs line tell.2 step)

-- the lines before the rest have no cause, and this is the format and the recording of what they tell
pub record IsMidway (text rest : List ℕ) (number : ℕ) (format : Format) (r : Recording) : Type 0 where
  pub short : length text ≤ MAX_INPUT_BYTES
  pub before : List (List ℕ)
  pub place : lines text ≡ before ++ lines rest
  pub count : length before ≡ number
  pub told : TextEvents
  pub lines_tell : AreToldBy nothing_told before told
  pub recording : IsTold told format r
  pub bound : number + length rest ≤ length text

-- the recording of no event
pub none_told : (r : Recording) → r ≡ no_event → IsTold nothing_told Unstated r
none_told r e = rw e (record {
  format_is = refl;
  objects = refl;
  events = record { well_formed = λ process. tt; made_are = refl; count = refl; declared = λ i c there. absurd (cc) };
})

pub begins : (text : List ℕ) (r : Recording) → length text ≤ MAX_INPUT_BYTES → r ≡ no_event → IsMidway text text 0 Unstated r
begins text r short e = record {
  short = short;
  before = [];
  place = refl;
  count = refl;
  told = nothing_told;
  lines_tell = refl;
  recording = none_told r e;
  bound = omega arith;
}

pub goes_on : (text rest : List ℕ) (number : ℕ) (format after : Format) (r new : Recording) (line more : List ℕ) → IsMidway text rest number format r → lines rest ≡ line ∷ lines more
    → length more < length rest → ((told : TextEvents) → IsTold told format r → (all : TextEvents) × IsToldBy told line all × IsTold all after new) → IsMidway text more (number + 1) after new
goes_on text rest number format after r new line more m cut shorter step =
    let s = step m.told m.recording in
    record {
      short = m.short;
      before = m.before ++ line ∷ [];
      place = m.place ∙ (ap (λ ls. m.before ++ ls) cut ∙ rw append_assoc refl);
      count = rw length-append (omega (arith, m.count));
      told = s.0;
      lines_tell = told_push nothing_told m.told s.0 m.before line m.lines_tell s.1;
      recording = s.2;
      bound = omega (arith, m.bound);
    }

none_left : (rest : List ℕ) → length rest ≡ 0 → rest ≡ []
none_left [] e = refl
none_left (x ∷ xs) e = absurd (omega arith)

pub ends : (text rest : List ℕ) (number : ℕ) (format : Format) (r : Recording) → IsMidway text rest number format r → length rest ≡ 0 → MeansRecording text r
ends text rest number format r m empty =
    let e : rest ≡ [] = none_left rest empty in
    let whole : lines text ≡ m.before = m.place ∙ (rw (e, lines_nil) (append_nil m.before)) in
    record {
      short = m.short;
      told = m.told;
      lines_tell = rw whole m.lines_tell;
      recording = record { format_is = refl; objects = m.recording.objects; events = m.recording.events };
    }

-- a text means the history of its recording
pub means_history : (text : List ℕ) (r : Recording) (h : RecordedHistory) → MeansRecording text r → h ≡ history_of r → ((events : List (Event Op Reply)) → IsRecordingOf events r → IsHistoryOf events h) → MeansHistory text h
means_history text r h m is of = record {
  short = m.short;
  told = m.told;
  lines_tell = m.lines_tell;
  history = record { objects = ap (λ (x : RecordedHistory). x.objects) is ∙ m.recording.objects; events = of m.told.events m.recording.events };
}

pub reached : (text rest : List ℕ) (number : ℕ) (format : Format) (r : Recording) (line more : List ℕ) (m : IsMidway text rest number format r) → lines rest ≡ line ∷ lines more → IsReached text (number + 1) line m.told
reached text rest number format r line more m cut = record {
  short = m.short;
  before = m.before;
  after = lines more;
  place = m.place ∙ ap (λ ls. m.before ++ ls) cut;
  count = omega (arith, m.count);
  lines_tell = m.lines_tell;
}
