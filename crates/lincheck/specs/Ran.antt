-- What a run writes.
use Rattle.std.specs.Prelude.{◌≡◌, ℕ, Bool, true, false, Option, IfSome, List, take, Result, Ok, Err}
use Rattle.std.specs.Io.KnownBytes.{Appends, Keeps}
use Rattle.lin_workers.specs.Options.{Options}
use Rattle.lincheck.specs.declared.answer_form.AnswerForm.{AnswerForm}
use Rattle.lincheck.specs.declared.status.Status.{Status}
use Rattle.lincheck.specs.declared.fault.RunFault.{RunFault}
use Rattle.lincheck.specs.declared.fault.RunFault.TheVariants.{Read, Write, Memory}
use Rattle.lincheck.specs.Prints.{Prints}

-- The reader failed, the writer failed.
abbrev pub is_read : RunFault → Bool
is_read Read = true
is_read Write = false
is_read Memory = false

abbrev pub is_write : RunFault → Bool
is_write Read = false
is_write Write = true
is_write Memory = false

-- The answer is a fault for which this holds.
abbrev pub is_fault : {A : Type 0} → (RunFault → Bool) → Result A RunFault → Bool
is_fault p (Ok x) = false
is_fault p (Err fault) = p fault

-- What a run on the text with these options in this form leaves written, which began with the bytes of old and ended with those of new: with a status
-- what the text prints; after a failed write a prefix of it; after another fault nothing.
abbrev pub Ran : Options → AnswerForm → List ℕ → Option (List ℕ) → Option (List ℕ) → Result Status RunFault → Type 0
Ran options form text old new (Ok status) = (printed : List ℕ) × Prints options form text status printed × Appends old new printed
Ran options form text old new (Err Write) = (status : Status) × (printed : List ℕ) × (n : ℕ) × Prints options form text status printed × Appends old new (take n printed)
Ran options form text old new (Err Read) = Keeps old new
Ran options form text old new (Err Memory) = Keeps old new

-- The same of a run that read from a source: there is a text that it read, which is what the source had left where that
-- is known.
abbrev pub RanFrom : Options → AnswerForm → Option (List ℕ) → Option (List ℕ) → Option (List ℕ) → Result Status RunFault → Type 0
RanFrom options form source old new result = (text : List ℕ) × IfSome source (λ left. text ≡ left) × Ran options form text old new result
