-- What two states have in common on some values, and calls from which on a part begins anew (this project's own).
use Rattle.std.specs.Prelude.{◌≡◌, ◌⊎◌, ℕ, ℤ, pos, ◌<◌, ◌≤◌, filter, Option, Some, None, List, true, if◌then◌else◌, length, slice_get, slice_index}
use Rattle.lin_object.specs.declared.op.Op.{Op}
use Rattle.lin_object.specs.declared.reply.Reply.{Reply}
use Rattle.lin_object.specs.declared.state.ObjState.{ObjState}
use Rattle.lin_object.specs.declared.state.ObjState.TheVariants.{Register, Counter, Queue, Stack, Set, Mutex, Map}
use Rattle.lin_object.specs.Items.{is_in}
use Rattle.lin_object.specs.Pairs.{value_at}
use Rattle.lin_history.specs.declared.problems.problem.ProblemCall.{ProblemCall}
use Rattle.lin_history.specs.Problems.Lists.{In}
use Rattle.lin_history.specs.Problems.Problem.{Problem}
use Rattle.lin_history.specs.Problems.LegalLists.{after_call}
use Rattle.lin_history.specs.Problems.Precedence.{Before}
use Rattle.lin_core.specs.Cuts.{AreCut, AreEnough}
use Rattle.lin_core.specs.Laws.{Any, IsIdle, IsOn, IsOff}

-- The items among the values.
abbrev pub among : List ℤ → List ℤ → List ℤ
among values items = filter (λ (x : ℤ). is_in x values) items

-- The holder, if it is among them.
abbrev pub holder_among : List ℤ → Option ℕ → Option ℕ
holder_among values None = None
holder_among values (Some p) = if is_in (pos p) values then Some p else None

-- Both states have the same of what is known of the values: of the first the second is what is left.
abbrev pub IsOnValues : List ℤ → ObjState → ObjState → Type 0
IsOnValues values (Register v) (Register w) = is_in v values ≡ true → v ≡ w
IsOnValues values (Counter v) (Counter w) = v ≡ w
IsOnValues values (Queue xs) (Queue ys) = among values xs ≡ ys
IsOnValues values (Stack xs) (Stack ys) = among values xs ≡ ys
IsOnValues values (Set xs) (Set ys) = (item : ℤ) → is_in item values ≡ true → is_in item xs ≡ is_in item ys
IsOnValues values (Mutex h) (Mutex g) = holder_among values h ≡ g
IsOnValues values (Map ps) (Map qs) = (key : ℤ) → is_in key values ≡ true → value_at key ps ≡ value_at key qs
IsOnValues values s u = ⊥

-- Wherever the call can be done, it can be done at the start, and what is known of the values is the same after both.
abbrev pub BeginsAnew : Problem ObjState Op Reply → List ℤ → ProblemCall Op Reply → Type 0
BeginsAnew p values x = (s t : ObjState) → after_call p s (Some x) ≡ Some t → (v : ObjState) × (after_call p p.start (Some x) ≡ Some v) × IsOnValues values t v

-- Calls, as they stood after the event, each of which may stay, and of which the first is one that begins anew and precedes the
-- others. Of those called by then each one that is not kept may go, or precedes the first.
pub record AreEnoughFrom (p : Problem ObjState Op Reply) (event : ℕ) (kept : List ℕ) (calls : List (ProblemCall Op Reply)) (may_stay may_go anew : ProblemCall Op Reply → Type 0) : Type 0 where
  pub cut : AreCut p event kept calls
  pub stay : (i : ℕ) (x : ProblemCall Op Reply) → slice_get calls i ≡ Some x → may_stay x
  pub begins : (x : ProblemCall Op Reply) × (slice_get calls 0 ≡ Some x) × anew x
  pub later : (i : ℕ) → 0 < i → i < length kept → Before p (slice_index kept 0) (slice_index kept i)
  pub go : (c : ℕ) (x : ProblemCall Op Reply) → slice_get p.calls c ≡ Some x → x.called ≤ event → In c kept ⊎ (may_go x ⊎ Before p c (slice_index kept 0))

-- Such calls on the values. Each one that is not kept changes nothing of what is known of the values, or precedes the first.
abbrev pub AreEnoughSince : Problem ObjState Op Reply → ℕ → List ℕ → List (ProblemCall Op Reply) → List ℤ → Type 0
AreEnoughSince p event kept calls values = AreEnoughFrom p event kept calls (IsOn values) (IsOff values) (BeginsAnew p values)

-- Wherever the call can be done, it can be done at the start, and leaves the same state.
abbrev pub LeavesOneState : Problem ObjState Op Reply → ProblemCall Op Reply → Type 0
LeavesOneState p x = (s t : ObjState) → after_call p s (Some x) ≡ Some t → after_call p p.start (Some x) ≡ Some t

-- Calls, as they stood after the event, among which is each call that was called by then and changes anything; or each such one from a
-- first call on that leaves one state, behind those that precede it, and precedes the others.
abbrev pub AreAllThatChange : Problem ObjState Op Reply → ℕ → List ℕ → List (ProblemCall Op Reply) → Type 0
AreAllThatChange p event kept calls = AreEnough p event kept calls Any (IsIdle p) ⊎ AreEnoughFrom p event kept calls Any (IsIdle p) (LeavesOneState p)
