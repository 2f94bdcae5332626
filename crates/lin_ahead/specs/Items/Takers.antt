-- Configurations that leave too few takers: of a queue, too few dequeues for what must be taken out of it (this project's own).
use Rattle.std.specs.Prelude.{◌≡◌, ◌≢◌, ℕ, ◌<◌, ℤ, Bool, true, false, not, ◌&&◌, Option, Some, None, List, [], ◌∷◌, ◌⊎◌, length, slice_get, nat_eq, nat_le}
use Rattle.lin_object.specs.declared.op.Op.{Op}
use Rattle.lin_object.specs.declared.reply.Reply.{Reply}
use Rattle.lin_object.specs.declared.state.ObjState.{ObjState}
use Rattle.lin_object.specs.declared.state.ObjState.TheVariants.{Queue}
use Rattle.lin_object.specs.contracts.reply.ReplyPartialEq.TheImpl.{eq-value as reply_eq}
use Rattle.lin_object.specs.contracts.state.ObjStatePartialEq.TheImpl.{eq-value as state_eq}
use Rattle.lin_object.specs.Kinds.{after}
use Rattle.lin_history.specs.declared.problems.problem.ProblemCall.{ProblemCall}
use Rattle.lin_history.specs.Problems.Lists.{In, IsDistinct}
use Rattle.lin_history.specs.Problems.Problem.{Problem}
use Rattle.lin_history.specs.Problems.Precedence.{Before}
use Rattle.lin_history.specs.Problems.Continuations.{has}
use Rattle.lin_ahead.specs.Items.Late.{ReturnsOutside}
use Rattle.lin_ahead.specs.Queues.Queue.{Item, FoundEmpty, OnlyPuts}
use Rattle.lin_laws.specs.Items.{Puts, Took}
use Rattle.lin_laws.specs.Counting.{counted}
use Rattle.lin_ahead.specs.Queues.ToldOfQueue.{IsTaker}

-- The problem of these calls on a queue that starts empty.
abbrev pub queue_of : List (ProblemCall Op Reply) → Problem ObjState Op Reply
queue_of calls = record { after = after; same_state = state_eq.it; same_reply = reply_eq.it; start = Queue []; calls = calls }

-- No two of the items are equal.
abbrev pub AreApart : List ℤ → Type 0
AreApart [] = Unit {0}
AreApart (v ∷ vs) = (Item v vs → ⊥) × AreApart vs

-- The call is not in the set, and is not call c.
abbrev pub is_left : List Bool → ℕ → ℕ → Bool
is_left set c d = not (nat_eq d c) && not (has set d)

-- The call was called at this event or before.
abbrev pub called_by : ℕ → Option (ProblemCall Op Reply) → Bool
called_by n None = false
called_by n (Some x) = nat_le x.called n

module _ (p : Problem ObjState Op Reply) where
  -- No completed call returned with the item.
  abbrev pub IsLost : ℤ → Type 0
  IsLost v = (j : ℕ) → Took p j v → ⊥

  -- Call z finds all that goes before call a gone: it is a, and found the queue empty; or it returned with the item that a alone
  -- puts in, and that is not in the queue yet.
  abbrev pub FindsGone : List ℤ → ℕ → ℕ → Type 0
  FindsGone items a z = ((a ≡ z) × FoundEmpty p z) ⊎ ((w : ℤ) × Took p z w × Puts p a w × OnlyPuts p a w × (Item w items → ⊥))

module _ (p : Problem ObjState Op Reply) (set : List Bool) (c : ℕ) where
  -- The call is left, and was called by this event.
  abbrev pub is_left_by : ℕ → ℕ → Bool
  is_left_by n d = is_left set c d && called_by n (slice_get p.calls d)

  -- The number, and how many of these calls are.
  abbrev pub left_from : ℕ → ℕ → List ℕ → ℕ
  left_from n count [] = count
  left_from n count (d ∷ ds) = left_from n (counted (is_left_by n d) count) ds

  -- The call is a dequeue that is pending, left, and called by this event.
  abbrev pub IsTakerLeft : ℕ → ℕ → Type 0
  IsTakerLeft n d = IsTaker p d × (is_left_by n d ≡ true)

  -- There are fewer of them than that.
  abbrev pub AreFewer : ℕ → ℕ → Type 0
  AreFewer n k = (ts : List ℕ) → IsDistinct ts → ((d : ℕ) → In d ts → IsTakerLeft n d) → length ts < k

  -- The item goes before call a: it lies among these, or a call that is left puts it in and returned before a was called.
  abbrev pub GoesBefore : List ℤ → ℕ → ℤ → Type 0
  GoesBefore items a v = Item v items ⊎ ((b : ℕ) × Puts p b v × (is_left set c b ≡ true) × Before p b a)

  -- Different items that no completed call returned with, and that go before call a.
  abbrev pub AreLostBefore : List ℤ → ℕ → List ℤ → Type 0
  AreLostBefore items a vs = AreApart vs × ((v : ℤ) → Item v vs → IsLost p v × GoesBefore items a v)

  -- More of such items than there are takers that were called by this event.
  abbrev pub AreTooFew : List ℤ → ℕ → ℕ → Type 0
  AreTooFew items a m = (vs : List ℤ) × AreLostBefore items a vs × AreFewer m (length vs)

  -- With call c added to the set, and these items in the queue then, more items must be taken by dequeues that are pending than
  -- there are such dequeues: a call that is left finds them gone, and fewer were called by its return.
  abbrev pub LacksTakers : List ℤ → Type 0
  LacksTakers items = (a z m : ℕ) × ReturnsOutside p set z m × (z ≢ c) × FindsGone p items a z × AreTooFew items a m
