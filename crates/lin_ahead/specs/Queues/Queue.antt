-- Problems of a queue, and what their calls do to items (this project's own).
use Rattle.std.specs.Prelude.{◌≡◌, ℕ, ℤ, true, Some, List, [], ◌∷◌, ◌⊎◌, slice_get, IfSome}
use Rattle.lin_object.specs.declared.op.Op.{Op}
use Rattle.lin_object.specs.declared.op.Op.TheVariants.{Dequeue}
use Rattle.lin_object.specs.declared.reply.Reply.{Reply}
use Rattle.lin_object.specs.declared.reply.Reply.TheVariants.{Int, Empty}
use Rattle.lin_object.specs.declared.state.ObjState.{ObjState}
use Rattle.lin_object.specs.declared.state.ObjState.TheVariants.{Queue}
use Rattle.lin_object.specs.Kinds.{after}
use Rattle.lin_history.specs.declared.problems.problem.ProblemCall.{ProblemCall}
use Rattle.lin_history.specs.Problems.Problem.{Problem}
use Rattle.lin_history.specs.Problems.Precedence.{Before}
use Rattle.lin_laws.specs.Items.{Puts, Took}

-- The item is one of the list.
abbrev pub Item : ℤ → List ℤ → Type 0
Item v [] = ⊥
Item v (w ∷ ws) = (v ≡ w) ⊎ Item v ws

-- A problem under the tables of the kinds that starts with a queue of these items, and whose replies are equal where its
-- test says so.
pub record IsOfQueue (p : Problem ObjState Op Reply) (items : List ℤ) : Type 0 where
  pub after_is : (s : ObjState) (process : ℕ) (op : Op) → p.after s process op ≡ after s process op
  pub start_is : p.start ≡ Queue items
  pub exact : (r q : Reply) → p.same_reply r q ≡ true → r ≡ q

module _ (p : Problem ObjState Op Reply) where
  -- The call returned as it found the queue empty.
  abbrev pub FoundEmpty : ℕ → Type 0
  FoundEmpty c = (x : ProblemCall Op Reply) × (slice_get p.calls c ≡ Some x) × (x.op ≡ Dequeue) × ((n : ℕ) × (x.returned ≡ Some (n, Empty)))

  -- The call may take this item out: it returned with it, or is pending.
  abbrev pub MayTake : ℕ → ℤ → Type 0
  MayTake c v = (x : ProblemCall Op Reply) × (slice_get p.calls c ≡ Some x) × (x.op ≡ Dequeue) × IfSome x.returned (λ r. r.1 ≡ Int v)

  -- No other call puts this item in.
  abbrev pub OnlyPuts : ℕ → ℤ → Type 0
  OnlyPuts c v = (d : ℕ) → Puts p d v → d ≡ c

  -- The item is in the queue at the start, or put in by call b, and is not taken before call i: all calls that may take it were
  -- called after i returned; or it goes in once, and the call that returned with it was called after i returned.
  abbrev pub IsTakenAfter : List ℤ → ℕ → ℕ → ℤ → Type 0
  IsTakenAfter items i b v =
      ((j : ℕ) → MayTake j v → Before p i j)
      ⊎ (OnlyPuts b v × (Item v items → ⊥) × ((j : ℕ) × Took p j v × Before p i j))
