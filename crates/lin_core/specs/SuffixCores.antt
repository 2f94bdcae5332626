-- Cores from an unknown beginning: a few calls that have no linearization, whatever the object held before (this project's own).
use Rattle.std.specs.Prelude.{◌≡◌, ℕ, ℤ, nat_abs, Bool, true, false, Option, Some, None, List, [], ◌∷◌}
use Rattle.lin_object.specs.declared.op.Op.{Op}
use Rattle.lin_object.specs.declared.reply.Reply.{Reply}
use Rattle.lin_object.specs.declared.state.ObjState.{ObjState}
use Rattle.lin_object.specs.declared.state.ObjState.TheVariants.{Register, Set, Mutex, Map}
use Rattle.lin_object.specs.Items.{is_in}
use Rattle.lin_history.specs.declared.problems.problem.ProblemCall.{ProblemCall}
use Rattle.lin_history.specs.Problems.Problem.{Problem}
use Rattle.lin_history.specs.Problems.Linearizations.{IsLinearization}
use Rattle.lin_core.specs.declared.selection.Later.{Later}
use Rattle.lin_core.specs.declared.selection.MapKey.{MapKey}
use Rattle.lin_core.specs.Laws.{IsOn, IsOff}
use Rattle.lin_core.specs.KeyValues.{IsOnKey, IsOffKey, IsMap}
use Rattle.lin_core.specs.Windows.{AreEnoughWithin}
use Rattle.lin_core.specs.Suffixes.{part_from, HasBeginnings, IsAtKey, IsBesideKey, IsAtKeyUntil, IsBesideKeyAfter}

-- The call on a map may be kept: it is on the key, with no value but these in a reply; or on these values of the key, where 'no
-- value' is not looked at.
abbrev pub MayStayAt : Bool → ℤ → List ℤ → ProblemCall Op Reply → Type 0
MayStayAt true key values = IsAtKey key values
MayStayAt false key values = IsOnKey key false values

-- It may be left out.
abbrev pub MayGoAt : Bool → ℤ → List ℤ → ProblemCall Op Reply → Type 0
MayGoAt true key values = IsBesideKey key
MayGoAt false key values = IsOffKey key false values

-- The same where from an event on only one value counts.
abbrev pub MayStayUntil : Option Later → Bool → ℤ → List ℤ → ProblemCall Op Reply → Type 0
MayStayUntil None nothing key values = MayStayAt nothing key values
MayStayUntil (Some later) nothing key values = IsAtKeyUntil key values later.value later.event

abbrev pub MayGoAfter : Option Later → Bool → ℤ → List ℤ → ProblemCall Op Reply → Type 0
MayGoAfter None nothing key values = MayGoAt nothing key values
MayGoAfter (Some later) nothing key values = IsBesideKeyAfter key later.value later.event

-- The call may be kept: it is on the values, or may be kept of the key.
abbrev pub MayStayIn : Option MapKey → List ℤ → ProblemCall Op Reply → Type 0
MayStayIn None values = IsOn values
MayStayIn (Some at) values = MayStayUntil at.later at.nothing at.key values

-- It may be left out.
abbrev pub MayGoIn : Option MapKey → List ℤ → ProblemCall Op Reply → Type 0
MayGoIn None values = IsOff values
MayGoIn (Some at) values = MayGoAfter at.later at.nothing at.key values

-- The value that counts alone from an event on, where there is one, is among these.
abbrev pub IsLaterIn : Option Later → List ℤ → Type 0
IsLaterIn None values = Unit {0}
IsLaterIn (Some later) values = is_in later.value values ≡ true

-- The values stand for all that the object may have held.
abbrev pub HasBeginningsIn : Option MapKey → List ℤ → ObjState → Type 0
HasBeginningsIn None values start = HasBeginnings values start
HasBeginningsIn (Some at) values start = IsMap start × IsLaterIn at.later values

-- The state of an object that starts so, where it holds this value alone: a register has it, it is the item of a set, it is the
-- process that holds a mutex, or the value of this key of a map.
abbrev pub holding : Option MapKey → ObjState → ℤ → ObjState
holding key (Register z) v = Register v
holding key (Set items) v = Set (v ∷ [])
holding key (Mutex holder) v = Mutex (Some (nat_abs v))
holding (Some at) (Map pairs) v = Map (record { key = at.key; value = v } ∷ [])
holding key start v = start

-- The state where it holds none: a register has what it has at its start.
abbrev pub holding_none : ObjState → ObjState
holding_none (Register z) = Register z
holding_none (Set items) = Set []
holding_none (Mutex holder) = Mutex None
holding_none (Map pairs) = Map []
holding_none start = start

-- The calls of these numbers, as they stood in the window, have no linearization from this state on; and each other call that was
-- called by then was over before the window, or may be left out.
abbrev pub IsRefutedFrom : Problem ObjState Op Reply → ℕ → ℕ → Option MapKey → List ℤ → List ℕ → ObjState → Type 0
IsRefutedFrom p from event key values kept u = (calls : List (ProblemCall Op Reply)) × AreEnoughWithin p from event kept calls (MayStayIn key values) (MayGoIn key values) × ((l : List ℕ) → IsLinearization (part_from p u calls) l → ⊥)

-- So it is whatever the object held: nothing, one of the values, or another, which stands for all that are not among these.
pub record IsSuffixCore (p : Problem ObjState Op Reply) (from event : ℕ) (key : Option MapKey) (values : List ℤ) (kept : List ℕ) : Type 0 where
  pub other : ℤ
  pub fresh : is_in other values ≡ false
  pub begins : HasBeginningsIn key values p.start
  pub nothing : IsRefutedFrom p from event key values kept (holding_none p.start)
  pub each : (v : ℤ) → is_in v (other ∷ values) ≡ true → IsRefutedFrom p from event key values kept (holding key p.start v)
