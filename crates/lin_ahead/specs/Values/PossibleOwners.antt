-- Which calls on a register may have written the value that a call found, by real time (this project's own).
use Rattle.std.specs.Prelude.{◌≡◌, ◌≢◌, ◌⊎◌, ◌||◌, ℕ, ◌<◌, ℤ, Bool, true, false, not, Option, Some, None, List, length, slice_get, IsSomeAnd, IsTrue}
use Rattle.std.specs.Ordering.{int_eq}
use Rattle.lin_object.specs.declared.op.Op.{Op}
use Rattle.lin_object.specs.declared.op.Op.TheVariants.{Write, Read, Cas}
use Rattle.lin_object.specs.declared.reply.Reply.{Reply}
use Rattle.lin_object.specs.declared.reply.Reply.TheVariants.{Int, Flag}
use Rattle.lin_history.specs.declared.problems.problem.ProblemCall.{ProblemCall}
use Rattle.lin_history.specs.Problems.Lists.{In, IsDistinct}
use Rattle.lin_ahead.specs.declared.values.owners.Owners.{Owners}
use Rattle.lin_ahead.specs.declared.values.writers.TheConstants.{MOST_OWNERS}
use Rattle.lin_ahead.specs.Values.Register.{value_written, value_found}

-- A completed call breaks the value: by its reply it wrote or found another one, or found that this one was not there. While it
-- stands in a run the value is not there all the time.
abbrev pub breaks : ℤ → Op → Option (ℕ × Reply) → Bool
breaks v op None = false
breaks v (Write u) (Some r) = not (int_eq u v)
breaks v Read (Some (number, Int u)) = not (int_eq u v)
breaks v (Cas a b) (Some (number, Flag true)) = not (int_eq a v) || not (int_eq b v)
breaks v (Cas a b) (Some (number, Flag false)) = int_eq a v
breaks v op (Some r) = false

-- Owners are told of call g.
abbrev pub IsTold : List Owners → ℕ → Type 0
IsTold rows g = IsSomeAnd (slice_get rows g) (λ row. IsTrue row.are_told)

module _ (calls : List (ProblemCall Op Reply)) where
  -- Call a returned before call b was called.
  abbrev pub ReturnedBefore : ℕ → ℕ → Type 0
  ReturnedBefore a b = IsSomeAnd (slice_get calls a) (λ x. IsSomeAnd x.returned (λ r. IsSomeAnd (slice_get calls b) (λ y. r.0 < y.called)))

  -- The call breaks the value.
  abbrev pub Breaks : ℕ → ℤ → Type 0
  Breaks c v = IsSomeAnd (slice_get calls c) (λ x. IsTrue (breaks v x.op x.returned))

  -- Call w is not the one whose value v call g found: it is g itself, g returned before it was called, or a call between them in
  -- real time breaks the value.
  abbrev pub IsNoOwner : ℤ → ℕ → ℕ → Type 0
  IsNoOwner v g w = (w ≡ g) ⊎ (ReturnedBefore g w ⊎ ((c : ℕ) × ReturnedBefore w c × ReturnedBefore c g × Breaks c v))

  -- Nor was the value there from the start on: another one was, or a call before g breaks it.
  abbrev pub IsNotFromStart : ℤ → ℤ → ℕ → Type 0
  IsNotFromStart start v g = (v ≢ start) ⊎ ((c : ℕ) × ReturnedBefore c g × Breaks c v)

  -- Owners are told of a call that found a value: among them is each call that may write it and may have written what was found.
  pub record AreOwnersOf (start : ℤ) (g : ℕ) (owners : Owners) : Type 0 where
    pub found : ℤ
    pub finds : (x : ProblemCall Op Reply) × (slice_get calls g ≡ Some x) × (value_found x.op x.returned ≡ Some found)
    pub each : (w : ℕ) (x : ProblemCall Op Reply) → slice_get calls w ≡ Some x → value_written x.op x.returned ≡ Some found → In w owners.calls.items ⊎ IsNoOwner found g w
    pub start_too : owners.at_start ≡ false → IsNotFromStart start found g

  -- So it is with each row that is told.
  abbrev pub AreOwnerRows : ℤ → List Owners → Type 0
  AreOwnerRows start rows = (g : ℕ) (row : Owners) → slice_get rows g ≡ Some row → IsTrue row.are_told → AreOwnersOf start g row

  -- The call may write the value. A pending call may, too.
  abbrev pub Writes : ℤ → ℕ → Type 0
  Writes v w = IsSomeAnd (slice_get calls w) (λ x. value_written x.op x.returned ≡ Some v)

  -- More calls may write the value than owners are told.
  pub record AreTooMany (v : ℤ) : Type 0 where
    pub writers : List ℕ
    pub distinct : IsDistinct writers
    pub more : MOST_OWNERS < length writers
    pub each : (w : ℕ) → In w writers → Writes v w

  -- Owners are told of each completed call that found a value, where they are not too many.
  abbrev pub AreToldWhereFew : List Owners → Type 0
  AreToldWhereFew rows = (g : ℕ) (v : ℤ) → IsSomeAnd (slice_get calls g) (λ x. value_found x.op x.returned ≡ Some v) → IsTold rows g ⊎ AreTooMany v
