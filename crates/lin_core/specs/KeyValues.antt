-- The calls of a map on some values of one of its keys (this project's own).
use Rattle.std.specs.Prelude.{◌≡◌, ◌⊎◌, ℕ, ℤ, Bool, true, false, not, ◌&&◌, Option, Some, None, List}
use Rattle.std.specs.Ordering.{int_eq}
use Rattle.lin_object.specs.declared.op.Op.{Op}
use Rattle.lin_object.specs.declared.op.Op.TheVariants.{Put, Lookup, Delete}
use Rattle.lin_object.specs.declared.reply.Reply.{Reply}
use Rattle.lin_object.specs.declared.reply.Reply.TheVariants.{Int, Empty}
use Rattle.lin_object.specs.declared.state.ObjState.{ObjState}
use Rattle.lin_object.specs.declared.state.ObjState.TheVariants.{Map}
use Rattle.lin_object.specs.contracts.reply.ReplyPartialEq.TheImpl.{eq-value as reply_eq}
use Rattle.lin_object.specs.contracts.state.ObjStatePartialEq.TheImpl.{eq-value as state_eq}
use Rattle.lin_object.specs.Items.{is_in}
use Rattle.lin_object.specs.Kinds.{after}
use Rattle.lin_object.specs.StepAnswers.{ChangesNothing}
use Rattle.lin_history.specs.declared.problems.problem.ProblemCall.{ProblemCall}
use Rattle.lin_history.specs.Problems.Problem.{Problem}
use Rattle.lin_core.specs.Cuts.{AreEnough}
use Rattle.lin_core.specs.Laws.{IsLeft}

-- What a key has is known: one of the values, or none where that is known too.
abbrev pub is_known : Bool → List ℤ → Option ℤ → Bool
is_known nothing values None = nothing
is_known nothing values (Some v) = is_in v values

-- The reply to a get tells of what is known.
abbrev pub tells : Bool → List ℤ → Reply → Bool
tells nothing values (Int v) = is_in v values
tells nothing values Empty = nothing
tells nothing values reply = false

abbrev pub may_tell : Bool → List ℤ → Option (ℕ × Reply) → Bool
may_tell nothing values None = true
may_tell nothing values (Some r) = tells nothing values r.1

-- The call gives the key one of the values, or finds what is known.
abbrev pub is_on_key : ℤ → Bool → List ℤ → Op → Option (ℕ × Reply) → Bool
is_on_key key nothing values (Put k v) returned = int_eq k key && is_in v values
is_on_key key nothing values (Lookup k) returned = int_eq k key && may_tell nothing values returned
is_on_key key nothing values op returned = false

-- After the call it is not known what the key has, or the key has what it had.
abbrev pub is_off_key : ℤ → Bool → List ℤ → Op → Bool
is_off_key key nothing values (Put k v) = not (int_eq k key && is_in v values)
is_off_key key nothing values (Delete k) = not (int_eq k key && nothing)
is_off_key key nothing values op = false

abbrev pub IsOnKey : ℤ → Bool → List ℤ → ProblemCall Op Reply → Type 0
IsOnKey key nothing values x = is_on_key key nothing values x.op x.returned ≡ true

-- It changes nothing of what is known of the key, or nothing at all.
abbrev pub IsOffKey : ℤ → Bool → List ℤ → ProblemCall Op Reply → Type 0
IsOffKey key nothing values x = (is_off_key key nothing values x.op ≡ true) ⊎ ChangesNothing state_eq.it reply_eq.it after x.op x.returned

-- The state is that of a map.
abbrev pub IsMap : ObjState → Type 0
IsMap (Map pairs) = Unit {0}
IsMap state = ⊥

-- Only calls on some values of a key may be kept.
abbrev pub KeyValuesLaw : Problem ObjState Op Reply → Type 0
KeyValuesLaw p = (key : ℤ) (nothing : Bool) (values : List ℤ) (event : ℕ) (kept : List ℕ) (calls : List (ProblemCall Op Reply)) → IsMap p.start → AreEnough p event kept calls (IsOnKey key nothing values) (IsOffKey key nothing values) → IsLeft p kept calls
