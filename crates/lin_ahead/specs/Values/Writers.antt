-- Rows of the calls that may write each value, and which of them a call that found one may have found (this project's own).
use Rattle.std.specs.Prelude.{◌≡◌, ◌⊎◌, ℕ, ◌+◌, ◌^◌, ◌<◌, ◌≤◌, ℤ, true, nat_lt, Option, Some, None, List, length, slice_get, if◌then◌else◌}
use Rattle.lin_object.specs.declared.op.Op.{Op}
use Rattle.lin_object.specs.declared.reply.Reply.{Reply}
use Rattle.lin_history.specs.declared.problems.problem.ProblemCall.{ProblemCall}
use Rattle.lin_history.specs.Problems.Lists.{In, IsDistinct}
use Rattle.lin_ahead.specs.declared.values.breaking_calls.Finder.{Finder}
use Rattle.lin_ahead.specs.declared.values.writers.Writer.{Writer}
use Rattle.lin_ahead.specs.Values.Register.{value_written, value_found}
use Rattle.lin_ahead.specs.Values.PossibleOwners.{breaks, IsNoOwner, Writes}

-- From which key on rows stand, as a list says of it.
abbrev pub low_at : Option ℕ → Option ℕ
low_at None = None
low_at (Some low) = if nat_lt low (2 ^ 63) then Some low else None

-- From which key on the rows of a value stand, by its index.
abbrev pub low_by : List ℕ → Option ℕ → Option ℕ
low_by lows None = None
low_by lows (Some n) = low_at (slice_get lows n)

-- When a call returned; beyond all events while it is pending.
abbrev pub returned_or_beyond : Option (ℕ × Reply) → ℕ
returned_or_beyond None = 2 ^ 32
returned_or_beyond (Some r) = r.0

-- They are in the order of their keys.
abbrev pub AreInOrder : List Writer → Type 0
AreInOrder rows = (i j : ℕ) (r s : Writer) → i ≤ j → slice_get rows i ≡ Some r → slice_get rows j ≡ Some s → r.key ≤ s.key

-- From the one place on no row up to the other returned later than the row there.
abbrev pub NoneLater : List Writer → ℕ → ℕ → Type 0
NoneLater rows first place = (j : ℕ) (r s : Writer) → first ≤ j → j ≤ place → slice_get rows j ≡ Some r → slice_get rows place ≡ Some s → r.returned ≤ s.returned

-- There is such a place for each row.
pub record AreUnder (rows : List Writer) (under : List ℕ) : Type 0 where
  pub each : length under ≡ length rows
  pub none : (i first : ℕ) → slice_get under i ≡ Some first → (first ≤ i) × NoneLater rows first i

module _ (calls : List (ProblemCall Op Reply)) where
  -- This is the row of call w, which may write the value whose rows stand from this key on.
  pub record IsRowOf (v : ℤ) (low : ℕ) (w : ℕ) (r : Writer) : Type 0 where
    pub one : ProblemCall Op Reply
    pub there : slice_get calls w ≡ Some one
    pub writes : value_written one.op one.returned ≡ Some v
    pub call : r.call ≡ w
    pub key : r.key ≡ low + one.called
    pub returned : r.returned ≡ returned_or_beyond one.returned

  -- Each call that may write the value has a row.
  abbrev pub HasAllRows : ℤ → ℕ → List Writer → Type 0
  HasAllRows v low rows = (w : ℕ) (x : ProblemCall Op Reply) → slice_get calls w ≡ Some x → value_written x.op x.returned ≡ Some v → (i : ℕ) × (r : Writer) × (slice_get rows i ≡ Some r) × IsRowOf v low w r

  -- So it is with each value that has a number.
  abbrev pub HaveAllRows : (ℤ → Option ℕ) → List Writer → Type 0
  HaveAllRows low rows = (v : ℤ) (n : ℕ) → low v ≡ Some n → HasAllRows v n rows

  -- The call found this value, and was called at this event; the greatest key is that of a call called when it returned.
  pub record IsFinder (f : Finder) : Type 0 where
    pub one : ProblemCall Op Reply
    pub there : slice_get calls f.call ≡ Some one
    pub found : value_found one.op one.returned ≡ Some f.value
    pub called : f.called ≡ one.called
    pub back : ℕ × Reply
    pub returns : one.returned ≡ Some back
    pub high : f.high ≡ f.low + back.0

  -- A call that was called at this event breaks the value, and returned before the finder was called.
  pub record IsBroken (f : Finder) (since : ℕ) : Type 0 where
    pub call : ℕ
    pub one : ProblemCall Op Reply
    pub there : slice_get calls call ≡ Some one
    pub called : one.called ≡ since
    pub few : since < 2 ^ 32
    pub back : ℕ × Reply
    pub returns : one.returned ≡ Some back
    pub before : back.0 < f.called
    pub breaking : breaks f.value one.op one.returned ≡ true

  -- There is one, where the event is not 0.
  abbrev pub IsSince : Finder → ℕ → Type 0
  IsSince f since = 0 < since → IsBroken f since

  -- No call with a row from the one place on and before the other is the one whose value the finder found.
  abbrev pub NoOwners : Finder → List Writer → ℕ → ℕ → Type 0
  NoOwners f rows first place = (i w : ℕ) (r : Writer) → first ≤ i → i < place → slice_get rows i ≡ Some r → IsRowOf f.value f.low w r → IsNoOwner calls f.value f.call w

  -- Each call with a row from this place on is listed, or is not the one.
  abbrev pub AreListedFrom : Finder → List Writer → ℕ → List ℕ → Type 0
  AreListedFrom f rows place owners = (i w : ℕ) (r : Writer) → place ≤ i → slice_get rows i ≡ Some r → IsRowOf f.value f.low w r → In w owners ⊎ IsNoOwner calls f.value f.call w

  -- So many calls up to call w, or more, may write the value.
  pub record AreWriters (v : ℤ) (w n : ℕ) : Type 0 where
    pub writers : List ℕ
    pub distinct : IsDistinct writers
    pub more : n ≤ length writers
    pub each : (u : ℕ) → In u writers → (u ≤ w) × Writes calls v u

  -- So many calls up to call w may write the value that it may write.
  abbrev pub IsRun : ℕ → ℕ → Type 0
  IsRun w n = (v : ℤ) → Writes calls v w → AreWriters v w n

  -- So it is with the number of each row.
  abbrev pub AreRuns : List Writer → List ℕ → Type 0
  AreRuns rows runs = (i n : ℕ) (r : Writer) → slice_get runs i ≡ Some n → slice_get rows i ≡ Some r → IsRun r.call n
