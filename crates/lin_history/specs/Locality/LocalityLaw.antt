-- Locality (Herlihy and Wing 1990), as a law of histories: the whole has a linearization exactly where each of its objects has one.
use Rattle.std.specs.Prelude.{ℕ, ◌<◌, List, length}
use Rattle.lin_object.specs.declared.reply.Reply.{Reply}
use Rattle.lin_history.specs.declared.locality.placed.Placed.{Placed}
use Rattle.lin_history.specs.Problems.Linearizations.{IsLinearization}
use Rattle.lin_history.specs.Recorder.RecordedHistory.{RecordedHistory, IsHistory}
use Rattle.lin_history.specs.Locality.Whole.{IsLinearizationOfWhole}
use Rattle.lin_history.specs.Locality.RecordedWhole.{whole_of, part_of}

-- The whole has a linearization.
abbrev pub HasWhole : RecordedHistory → Type 0
HasWhole h = (l : List (Placed Reply)) × IsLinearizationOfWhole (whole_of h) l

-- Each object by itself has a linearization.
abbrev pub HasEach : RecordedHistory → Type 0
HasEach h = (object : ℕ) → object < length h.objects → (l : List ℕ) × IsLinearization (part_of h object) l

-- Either follows from the other.
pub record LocalityLaw : Type 0 where
  pub whole : (h : RecordedHistory) → IsHistory h → HasEach h → HasWhole h
  pub each : (h : RecordedHistory) → HasWhole h → HasEach h
