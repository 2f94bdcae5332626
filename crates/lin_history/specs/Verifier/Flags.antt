-- Lists of calls of a history, by a flag for each call.
use Rattle.std.specs.Prelude.{◌≡◌, ℕ, ◌<◌, Bool, true, Some, List, length, slice_get}
use Rattle.lin_history.specs.declared.locality.placed.Placed.{Placed}
use Rattle.lin_history.specs.Locality.Whole.{Whole, Has, AreDistinct}

module _ {State Op Reply : Type 0} (h : Whole State Op Reply) where
  -- Each call of the list is one of the history.
  abbrev pub AreKnown : List (Placed Reply) → Type 0
  AreKnown l = (a : ℕ) → Has h a l → a < length h.calls

  -- The list is of distinct calls of the history.
  pub record AreDistinctCalls (l : List (Placed Reply)) : Type 0 where
    pub distinct : AreDistinct h l
    pub known : AreKnown l

  -- The history's calls have flags, and those that are set are of the calls of the list.
  pub record AreFlagsOf (l : List (Placed Reply)) (flags : List Bool) : Type 0 where
    pub count : length flags ≡ length h.calls
    pub has : (a : ℕ) → slice_get flags a ≡ Some true → Has h a l
    pub set : (a : ℕ) → Has h a l → slice_get flags a ≡ Some true
