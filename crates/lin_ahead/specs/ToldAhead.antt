-- What is told ahead of a problem: all that the calls of its kind tell by real time (this project's own).
use Rattle.std.specs.Prelude.{◌≡◌, ◌⊎◌, ℕ, ℤ, Option, [], map}
use Rattle.lin_object.specs.declared.op.Op.{Op}
use Rattle.lin_object.specs.declared.reply.Reply.{Reply}
use Rattle.lin_object.specs.declared.state.ObjState.{ObjState}
use Rattle.lin_object.specs.declared.state.ObjState.TheVariants.{Queue, Stack, Register, Set, Map, Counter, Mutex}
use Rattle.lin_history.specs.Problems.AnyProblem.{any_problem}
use Rattle.lin_history.specs.Problems.ProblemParts.{ProblemParts}
use Rattle.lin_ahead.specs.declared.values.item_value.TheConstants.{ITEM_OUT}
use Rattle.lin_ahead.specs.declared.values.key_value.TheConstants.{NOTHING}
use Rattle.lin_ahead.specs.declared.look_ahead.KnownAhead.{KnownAhead}
use Rattle.lin_ahead.specs.declared.look_ahead.KnownAhead.TheVariants as kinds
use Rattle.lin_ahead.specs.declared.values.rows.ValuesAhead.{ValuesAhead}
use Rattle.lin_ahead.specs.Values.KeyValue.{call_on_value}
use Rattle.lin_ahead.specs.Values.ItemValue.{call_on_item}
use Rattle.lin_ahead.specs.Queues.ToldOfQueue.{IsToldOfQueue}
use Rattle.lin_ahead.specs.Stacks.ToldOfStack.{IsToldOfStack}
use Rattle.lin_ahead.specs.Values.ToldOfRegister.{IsToldOfRegister}
use Rattle.lin_ahead.specs.Counters.ToldOfCounter.{IsToldOfCounter}
use Rattle.lin_ahead.specs.Mutexes.MutexAhead.{IsToldOfMutex}

-- Of values: what the calls of a register tell; or those of a map that starts empty, as calls of a register that holds the key's value;
-- or those of a set that starts empty, as calls of a register that tells whether the item is in. Owners are told of each call that found
-- a value, where they are not too many.
abbrev pub IsToldOfValues : {Object : Type 0} → ProblemParts Object ObjState Op Reply → ValuesAhead → Type 0
IsToldOfValues p ahead = ((v : ℤ) × (p.start ≡ Register v) × IsToldOfRegister v p.calls ahead) ⊎ (((p.start ≡ Map []) × IsToldOfRegister NOTHING (map call_on_value p.calls) ahead) ⊎ ((p.start ≡ Set []) × IsToldOfRegister ITEM_OUT (map call_on_item p.calls) ahead))

-- It is told of the kind with which the problem starts.
abbrev pub IsToldAhead : {Object : Type 0} → ProblemParts Object ObjState Op Reply → KnownAhead → Type 0
IsToldAhead p (kinds.Queue ahead) = (p.start ≡ Queue []) × IsToldOfQueue (any_problem p) ahead
IsToldAhead p (kinds.Stack ahead) = (p.start ≡ Stack []) × IsToldOfStack (any_problem p) ahead
IsToldAhead p (kinds.Values ahead) = IsToldOfValues p ahead
IsToldAhead p (kinds.Counter rows) = (start : ℤ) × (p.start ≡ Counter start) × IsToldOfCounter (any_problem p) start rows
IsToldAhead p (kinds.Mutex ahead) = (holder : Option ℕ) × (p.start ≡ Mutex holder) × IsToldOfMutex (any_problem p) ahead
