-- What holds of every text: it means one thing at most (this project's own).
use Rattle.std.specs.Prelude.{◌≡◌, ℕ, List}
use Rattle.lin_history.specs.Recorder.RecordedHistory.{RecordedHistory}
use Rattle.lin_text.specs.declared.cause.Cause.{Cause}
use Rattle.lin_text.specs.Text.{MeansHistory, MeansFault}

-- A text means at most one history, at most one fault, and never both.
pub record MeaningLaw : Type 0 where
  pub one_history : (text : List ℕ) (h k : RecordedHistory) → MeansHistory text h → MeansHistory text k → h ≡ k
  pub one_fault : (text : List ℕ) (m n : ℕ) (c d : Cause) → MeansFault text m c → MeansFault text n d → (m ≡ n) × (c ≡ d)
  pub not_both : (text : List ℕ) (h : RecordedHistory) (number : ℕ) (cause : Cause) → MeansHistory text h → MeansFault text number cause → ⊥
