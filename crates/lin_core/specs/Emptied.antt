-- Calls on a queue or a stack from a moment on at which each of some items was out (this project's own).
use Rattle.std.specs.Prelude.{◌≡◌, ◌⊎◌, ℕ, ℤ, ◌<◌, ◌≤◌, Bool, true, false, Option, Some, None, List, [], length, slice_get, slice_index, nat_eq}
use Rattle.std.specs.Ordering.{int_eq}
use Rattle.lin_object.specs.declared.op.Op.{Op}
use Rattle.lin_object.specs.declared.op.Op.TheVariants.{Enqueue, Dequeue, Push, Pop}
use Rattle.lin_object.specs.declared.reply.Reply.{Reply}
use Rattle.lin_object.specs.declared.reply.Reply.TheVariants.{Int}
use Rattle.lin_object.specs.declared.state.ObjState.{ObjState}
use Rattle.lin_object.specs.declared.state.ObjState.TheVariants.{Queue, Stack}
use Rattle.lin_object.specs.Items.{is_in}
use Rattle.lin_history.specs.declared.problems.problem.ProblemCall.{ProblemCall}
use Rattle.lin_history.specs.Problems.Lists.{In, IsDistinct}
use Rattle.lin_history.specs.Problems.Problem.{Problem}
use Rattle.lin_history.specs.Problems.Precedence.{Before}
use Rattle.lin_laws.specs.Counting.{how_many}
use Rattle.lin_core.specs.Cuts.{AreCut}
use Rattle.lin_core.specs.Laws.{IsOn, IsOff}

-- The call puts the item in.
abbrev pub puts : ℤ → Op → Bool
puts v (Enqueue w) = int_eq w v
puts v (Push w) = int_eq w v
puts v op = false

-- The reply gives the item.
abbrev pub is_item : ℤ → Reply → Bool
is_item v (Int w) = int_eq w v
is_item v reply = false

-- It is recorded that the item was given.
abbrev pub gave : ℤ → Option (ℕ × Reply) → Bool
gave v None = false
gave v (Some r) = is_item v r.1

-- The call took the item out.
abbrev pub took : ℤ → Op → Option (ℕ × Reply) → Bool
took v Dequeue returned = gave v returned
took v Pop returned = gave v returned
took v op returned = false

-- The same of a call, where there is one.
abbrev pub puts_at : ℤ → Option (ProblemCall Op Reply) → Bool
puts_at v None = false
puts_at v (Some x) = puts v x.op

abbrev pub took_at : ℤ → Option (ProblemCall Op Reply) → Bool
took_at v None = false
took_at v (Some x) = took v x.op x.returned

-- How many of these calls put the item in, and how many took it out.
abbrev pub count_puts : List (ProblemCall Op Reply) → ℤ → List ℕ → ℕ
count_puts calls v these = how_many (λ c. puts_at v (slice_get calls c)) these

abbrev pub count_takes : List (ProblemCall Op Reply) → ℤ → List ℕ → ℕ
count_takes calls v these = how_many (λ c. took_at v (slice_get calls c)) these

-- As many of them put the item in as took it out.
abbrev pub is_even : List (ProblemCall Op Reply) → List ℕ → ℤ → Bool
is_even calls these v = nat_eq (count_puts calls v these) (count_takes calls v these)

-- A queue or a stack that holds nothing.
abbrev pub HoldsNothing : ObjState → Type 0
HoldsNothing (Queue items) = items ≡ []
HoldsNothing (Stack items) = items ≡ []
HoldsNothing state = ⊥

-- Calls on some items, at least one, as they stood after the event. Of those called by then each one that is not kept changes nothing
-- of what is known of the items, or is one of some earlier calls: each of these precedes all that are kept, and as many of them put
-- each of the items in as took it out.
pub record AreEnoughOnceOut (p : Problem ObjState Op Reply) (event : ℕ) (kept : List ℕ) (calls : List (ProblemCall Op Reply)) (values : List ℤ) : Type 0 where
  pub starts : HoldsNothing p.start
  pub cut : AreCut p event kept calls
  pub stay : (i : ℕ) (x : ProblemCall Op Reply) → slice_get calls i ≡ Some x → IsOn values x
  pub some : 0 < length kept
  pub earlier : List ℕ
  pub distinct : IsDistinct earlier
  pub before : (c i : ℕ) → In c earlier → i < length kept → Before p c (slice_index kept i)
  pub even : (v : ℤ) → is_in v values ≡ true → count_puts p.calls v earlier ≡ count_takes p.calls v earlier
  pub go : (c : ℕ) (x : ProblemCall Op Reply) → slice_get p.calls c ≡ Some x → x.called ≤ event → In c kept ⊎ (IsOff values x ⊎ In c earlier)
