-- What is read of a text.
use Rattle.std.specs.Prelude.{◌≡◌, ℕ, ◌<◌, ◌≤◌, ◌++◌, ◌⊎◌, List, Option, length}
use Rattle.std.specs.Io.KnownBytes.{Consumes}
use Rattle.lin_text.specs.declared.text.TheConstants.{MAX_INPUT_BYTES}

-- The whole text is read, or so much of it that it is too long.
abbrev pub IsReadOf : List ℕ → List ℕ → Type 0
IsReadOf text read = (text ≡ read) ⊎ ((MAX_INPUT_BYTES < length read) × ((rest : List ℕ) × (text ≡ read ++ rest)))

-- So many bytes at most were taken from the front of what a source had left, as far as that is known.
abbrev pub TakesAtMost : ℕ → Option (List ℕ) → Option (List ℕ) → Type 0
TakesAtMost most old new = (bytes : List ℕ) × (length bytes ≤ most) × Consumes old new bytes
