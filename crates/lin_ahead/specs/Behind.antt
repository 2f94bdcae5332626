-- Calls that need others at the configuration that a search is at, and what is known ahead of a problem (this project's own).
use Rattle.std.specs.Prelude.{◌≡◌, ◌≢◌, ℕ, ◌<◌, ℤ, Bool, false, Some, List, [], ◌∷◌, ◌++◌, length, slice_get, IsSomeAnd, IsTrue}
use Rattle.std.specs.Ordering.{int_eq}
use Rattle.indexmap.specs.IndexMap.{get}
use Rattle.lin_object.specs.declared.op.Op.{Op}
use Rattle.lin_object.specs.declared.reply.Reply.{Reply}
use Rattle.lin_object.specs.declared.state.ObjState.{ObjState}
use Rattle.lin_object.specs.declared.state.ObjState.TheVariants.{Queue, Stack}
use Rattle.lin_ahead.specs.declared.items.rows.ItemsAhead.{ItemsAhead}
use Rattle.lin_ahead.specs.declared.queues.rows.QueueAhead.{QueueAhead}
use Rattle.lin_ahead.specs.declared.stacks.rows.StackAhead.{StackAhead}
use Rattle.lin_ahead.specs.declared.counters.rows.SumRows.{SumRows}
use Rattle.lin_ahead.specs.declared.values.rows.ValuesAhead.{ValuesAhead}
use Rattle.lin_ahead.specs.declared.look_ahead.KnownAhead.TheVariants as kinds
use Rattle.lin_history.specs.Problems.Lists.{In}
use Rattle.lin_history.specs.Problems.Problem.{Problem}
use Rattle.lin_history.specs.Problems.Continuations.{has}
use Rattle.lin_history.specs.Problems.Linearizations.{IsLinearization}
use Rattle.lin_history.specs.Problems.Needs.{NeedNumbers, Needs}
use Rattle.lin_ahead.specs.declared.look_ahead.KnownAhead.{KnownAhead}
use Rattle.lin_ahead.specs.Items.ItemCalls.{told, told_in}
use Rattle.lin_ahead.specs.Items.Owed.{AreOwed}
use Rattle.lin_ahead.specs.Values.Owners.{AreOwners}
use Rattle.lin_ahead.specs.Values.Stranded.{FindOneState}
use Rattle.lin_ahead.specs.Items.Late.{NoneIsLate}
use Rattle.lin_ahead.specs.Queues.ToldOfQueue.{takers_from}
use Rattle.lin_ahead.specs.Stacks.ToldOfStack.{exchanged_calls}
use Rattle.lin_ahead.specs.Stacks.StackTakers.{on_queue}
use Rattle.lin_ahead.specs.Counters.Sums.{NoneIsOver}
use Rattle.lin_ahead.specs.Mutexes.MutexAhead.{IsRightOfMutex}

-- Call b needs call a behind the set: wherever b is in a linearization, with no call of the set behind it, a comes before it.
abbrev pub NeedsBehind : {State Op Reply : Type 0} → Problem State Op Reply → List Bool → ℕ → ℕ → Type 0
NeedsBehind p set a b = (l early late : List ℕ) → IsLinearization p l → l ≡ early ++ b ∷ late → ((c : ℕ) → In c late → has set c ≡ false) → In a early

-- The call was called after this event.
abbrev pub CalledAfter : {State Op Reply : Type 0} → Problem State Op Reply → ℕ → ℕ → Type 0
CalledAfter p n c = IsSomeAnd (slice_get p.calls c) (λ x. n < x.called)

-- Each of these calls that is not in the set was called after this event.
abbrev pub OthersCalledAfter : {State Op Reply : Type 0} → Problem State Op Reply → List Bool → ℕ → List ℕ → Type 0
OthersCalledAfter p set n calls = (i c : ℕ) → slice_get calls i ≡ Some c → has set c ≡ false → CalledAfter p n c

-- Behind a set a call needs every call whose number 'by' is less than its own number 'taken', where the takers that the set lacks were called after that.
abbrev pub AreNeedsBehind : {State Op Reply : Type 0} → Problem State Op Reply → List ℕ → List ℕ → List ℕ → Type 0
AreNeedsBehind p by taken takers = (set : List Bool) (a b m n : ℕ) → slice_get by a ≡ Some m → slice_get taken b ≡ Some n → m < n → OthersCalledAfter p set m takers → NeedsBehind p set a b

-- Each call has its two numbers, and a call needs every other call whose number 'by' is less than its own number 'from'. Of one
-- and the same call nothing is said: the first return of a value's calls is before the last of their call events as a rule.
pub record AreOtherNeeds {State Op Reply : Type 0} (p : Problem State Op Reply) (rows : NeedNumbers) : Type 0 where
  pub each_by : length rows.by ≡ length p.calls
  pub each_from : length rows.from ≡ length p.calls
  pub needed : (a b m n : ℕ) → slice_get rows.by a ≡ Some m → slice_get rows.from b ≡ Some n → m < n → a ≢ b → Needs p a b

-- What is told of each item is what the calls on a queue tell of it, and the takers are the dequeues that are pending.
abbrev pub AreQueueCalls : Problem ObjState Op Reply → ItemsAhead → Type 0
AreQueueCalls p ahead = ((v : ℤ) → told_in (get int_eq ahead.told) v ≡ told p.calls v) × (ahead.takers.items ≡ takers_from 0 p.calls)

-- The same of the calls on a stack, read as those on a queue, which are kept.
abbrev pub AreStackCalls : Problem ObjState Op Reply → StackAhead → Type 0
AreStackCalls p ahead = (ahead.on_queue.items ≡ exchanged_calls p.calls) × AreQueueCalls (on_queue p) ahead.items

-- What is known ahead of a queue is right for the problem.
pub record IsRightOfQueue (p : Problem ObjState Op Reply) (ahead : QueueAhead) : Type 0 where
  pub start : p.start ≡ Queue []
  pub needs : AreOtherNeeds p ahead.needs
  pub behind : AreNeedsBehind p ahead.needs.by ahead.taken.items ahead.items.takers.items
  pub owed : AreOwed p ahead.items.owed.items
  pub late : NoneIsLate p ahead.late
  pub calls : AreQueueCalls p ahead.items

-- What is known ahead of a stack is.
pub record IsRightOfStack (p : Problem ObjState Op Reply) (ahead : StackAhead) : Type 0 where
  pub start : p.start ≡ Stack []
  pub owed : AreOwed p ahead.items.owed.items
  pub late : NoneIsLate p ahead.late
  pub calls : AreStackCalls p ahead

-- What is known ahead of values is.
pub record IsRightOfValues (p : Problem ObjState Op Reply) (ahead : ValuesAhead) : Type 0 where
  pub needs : AreOtherNeeds p ahead.needs
  pub owners : AreOwners p ahead.owners.items
  pub found : FindOneState p ahead.owners.items
  pub in_vain : IsTrue ahead.in_vain → (l : List ℕ) → IsLinearization p l → ⊥

-- What is known ahead of a counter is.
pub record IsRightOfCounter (p : Problem ObjState Op Reply) (rows : SumRows) : Type 0 where
  pub sums : NoneIsOver p rows

-- What is known ahead is right for the problem.
abbrev pub IsRightAhead : Problem ObjState Op Reply → KnownAhead → Type 0
IsRightAhead p (kinds.Queue ahead) = IsRightOfQueue p ahead
IsRightAhead p (kinds.Stack ahead) = IsRightOfStack p ahead
IsRightAhead p (kinds.Values ahead) = IsRightOfValues p ahead
IsRightAhead p (kinds.Counter rows) = IsRightOfCounter p rows
IsRightAhead p (kinds.Mutex ahead) = IsRightOfMutex p ahead
