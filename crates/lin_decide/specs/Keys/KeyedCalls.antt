-- Which key each call on a map or a set has (this project's own).
use Rattle.std.specs.Prelude.{◌≡◌, ◌⊎◌, ℕ, ℤ, Some, List, [], length, slice_get, slice_index}
use Rattle.lin_object.specs.declared.op.Op.{Op}
use Rattle.lin_object.specs.declared.op.Op.TheVariants.{Put, Lookup, Delete, Insert, Remove, Contains}
use Rattle.lin_object.specs.declared.reply.Reply.{Reply}
use Rattle.lin_object.specs.declared.state.ObjState.{ObjState}
use Rattle.lin_object.specs.declared.state.ObjState.TheVariants.{Map, Set}
use Rattle.lin_history.specs.declared.problems.problem.ProblemCall.{ProblemCall}
use Rattle.lin_history.specs.Problems.Lists.{In}
use Rattle.lin_history.specs.Problems.ProblemParts.{ProblemParts}
use Rattle.lin_parts.specs.Parts.{IsRising}

-- The state is an empty map or an empty set.
abbrev pub StartsEmpty : ObjState → Type 0
StartsEmpty s = (s ≡ Map []) ⊎ (s ≡ Set [])

-- The operation is one of the state's kind, a map or a set, and this is the key or the item that it touches.
abbrev pub IsOnKey : ObjState → Op → ℤ → Type 0
IsOnKey (Map pairs) (Put q v) k = q ≡ k
IsOnKey (Map pairs) (Lookup q) k = q ≡ k
IsOnKey (Map pairs) (Delete q) k = q ≡ k
IsOnKey (Set items) (Insert q) k = q ≡ k
IsOnKey (Set items) (Remove q) k = q ≡ k
IsOnKey (Set items) (Contains q) k = q ≡ k
IsOnKey s op k = ⊥

-- The problem goes by key: it starts with an empty map or an empty set, and each call is an operation of that kind.
pub record GoesByKey {Object : Type 0} (parts : ProblemParts Object ObjState Op Reply) : Type 0 where
  pub empty : StartsEmpty parts.start
  pub keyed : (c : ℕ) (x : ProblemCall Op Reply) → slice_get parts.calls c ≡ Some x → (v : ℤ) × IsOnKey parts.start x.op v

-- The list has the calls on the key or the item, in increasing order, and no other.
pub record AreCallsOn {Object : Type 0} (parts : ProblemParts Object ObjState Op Reply) (v : ℤ) (kept : List ℕ) : Type 0 where
  pub rises : IsRising kept
  pub there : (c : ℕ) (x : ProblemCall Op Reply) → slice_get parts.calls c ≡ Some x → IsOnKey parts.start x.op v → In c kept
  pub own : (c : ℕ) → In c kept → (x : ProblemCall Op Reply) × (slice_get parts.calls c ≡ Some x) × IsOnKey parts.start x.op v

-- The problem starts with an empty map or an empty set, the keys are distinct, and each call has the number of its key.
pub record AreKeyNumbers {Object : Type 0} (parts : ProblemParts Object ObjState Op Reply) (keys : List ℤ) (numbers : List ℕ) : Type 0 where
  pub empty : StartsEmpty parts.start
  pub distinct : (i j : ℕ) (v : ℤ) → slice_get keys i ≡ Some v → slice_get keys j ≡ Some v → i ≡ j
  pub count : length numbers ≡ length parts.calls
  pub keyed : (c : ℕ) (x : ProblemCall Op Reply) → slice_get parts.calls c ≡ Some x → (v : ℤ) × (slice_get keys (slice_index numbers c) ≡ Some v) × IsOnKey parts.start x.op v
