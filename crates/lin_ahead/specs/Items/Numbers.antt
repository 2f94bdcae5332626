-- Two numbers for each call of a queue's problem, from which it follows what an enqueue needs (this project's own).
use Rattle.std.specs.Prelude.{◌≡◌, ℕ, ◌<◌, ◌≤◌, ◌^◌, ℤ, Some, List, [], ◌⊎◌, slice_get, IsSomeAnd}
use Rattle.lin_object.specs.declared.op.Op.{Op}
use Rattle.lin_object.specs.declared.reply.Reply.{Reply}
use Rattle.lin_object.specs.declared.state.ObjState.{ObjState}
use Rattle.lin_history.specs.declared.problems.problem.ProblemCall.{ProblemCall}
use Rattle.lin_history.specs.Problems.Problem.{Problem}
use Rattle.lin_history.specs.Problems.Needs.{NeedNumbers}
use Rattle.lin_ahead.specs.Queues.Queue.{Item, FoundEmpty, MayTake, OnlyPuts}
use Rattle.lin_laws.specs.Items.{Puts, Took}

module _ (p : Problem ObjState Op Reply) where
  -- The call's return event has this number.
  abbrev pub ReturnsAt : ℕ → ℕ → Type 0
  ReturnsAt c m = (x : ProblemCall Op Reply) × (slice_get p.calls c ≡ Some x) × ((r : Reply) × (x.returned ≡ Some (m, r)))

  -- The call's call event has this number or a greater one.
  abbrev pub CalledFrom : ℕ → ℕ → Type 0
  CalledFrom n c = IsSomeAnd (slice_get p.calls c) (λ y. n ≤ y.called)

  -- The number of call a: of the return of a dequeue that took the item which a alone puts in; of the return of a itself, if it
  -- found the queue empty; or it is beyond all events.
  abbrev pub IsBy : List ℤ → ℕ → ℕ → Type 0
  IsBy items a m =
      (2 ^ 32 ≤ m)
      ⊎ ((i : ℕ) × ReturnsAt i m × ((FoundEmpty p i × (i ≡ a)) ⊎ ((w : ℤ) × Puts p a w × OnlyPuts p a w × (Item w items → ⊥) × Took p i w)))

  -- The number of call b, an enqueue: no call that may take its item was called before that event, and none returned with it
  -- before. Pending calls do not count where b alone puts the item in and some call returned with it.
  abbrev pub IsFrom : List ℤ → ℕ → ℕ → Type 0
  IsFrom items b n =
      (n ≡ 0)
      ⊎ ((n ≤ 2 ^ 32) × ((v : ℤ) × Puts p b v
      × ((j : ℕ) → Took p j v → CalledFrom n j × ((m : ℕ) → ReturnsAt j m → n ≤ m))
      × (((j : ℕ) → MayTake p j v → CalledFrom n j) ⊎ (OnlyPuts p b v × (Item v items → ⊥) × ((j : ℕ) × Took p j v)))))

-- Rows with the numbers of the calls of a queue that starts empty: of those that are right the least event by which a call is
-- needed, and the greatest number up to which it needs others.
pub record AreNumbers (p : Problem ObjState Op Reply) (rows : NeedNumbers) : Type 0 where
  pub by : (a m : ℕ) → slice_get rows.by a ≡ Some m → IsBy p [] a m × ((k : ℕ) → k < 2 ^ 32 → IsBy p [] a k → m ≤ k)
  pub from : (b n : ℕ) → slice_get rows.from b ≡ Some n → IsFrom p [] b n × ((k : ℕ) → IsFrom p [] b k → k ≤ n)
