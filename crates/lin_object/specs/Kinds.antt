-- The kinds of object: their names, where each starts, and what each operation does (this project's own). Each kind has
-- a file of its own with its operations, its table and its law; what is here lists them.
pub mod Counter
pub mod Map
pub mod Mutex
pub mod Queue
pub mod Register
pub mod Set
pub mod Stack
use Rattle.std.specs.Prelude.{ℕ, ℤ, Bool, true, false, List, [], ◌∷◌, codes, Option, None, Result}
use Rattle.lin_object.specs.declared.kind.Kind.{Kind}
use Rattle.lin_object.specs.declared.kind.Kind.TheVariants as kinds
use Rattle.lin_object.specs.declared.op.Op.{Op}
use Rattle.lin_object.specs.declared.op.OpFault.{OpFault}
use Rattle.lin_object.specs.declared.state.ObjState.{ObjState}
use Rattle.lin_object.specs.declared.state.ObjState.TheVariants as states
use Rattle.lin_object.specs.Names.{beside, OpMaker, made_of, op_made}
use Rattle.lin_object.specs.Runs.{Behavior}
use Rattle.lin_object.specs.Kinds.Counter.{counter_operations, counter_step}
use Rattle.lin_object.specs.Kinds.Map.{map_operations, map_step}
use Rattle.lin_object.specs.Kinds.Mutex.{mutex_operations, mutex_step}
use Rattle.lin_object.specs.Kinds.Queue.{queue_operations, queue_step}
use Rattle.lin_object.specs.Kinds.Register.{register_operations, register_step}
use Rattle.lin_object.specs.Kinds.Set.{set_operations, set_step}
use Rattle.lin_object.specs.Kinds.Stack.{stack_operations, stack_step}

-- The kinds by their names.
abbrev pub kind_names : List (List ℕ × Kind)
kind_names =
    (codes "register", kinds.Register)
    ∷ (codes "counter", kinds.Counter)
    ∷ (codes "queue", kinds.Queue)
    ∷ (codes "stack", kinds.Stack)
    ∷ (codes "set", kinds.Set)
    ∷ (codes "mutex", kinds.Mutex)
    ∷ (codes "map", kinds.Map)
    ∷ []

-- Whether a declaration of the kind may say with which number its object starts.
abbrev pub starts_with_number : Kind → Bool
starts_with_number kinds.Register = true
starts_with_number kinds.Counter = true
starts_with_number kinds.Queue = false
starts_with_number kinds.Stack = false
starts_with_number kinds.Set = false
starts_with_number kinds.Mutex = false
starts_with_number kinds.Map = false

-- The state in which an object of the kind starts, with the number of its declaration.
abbrev pub state_at_start : Kind → ℤ → ObjState
state_at_start kinds.Register number = states.Register number
state_at_start kinds.Counter number = states.Counter number
state_at_start kinds.Queue number = states.Queue []
state_at_start kinds.Stack number = states.Stack []
state_at_start kinds.Set number = states.Set []
state_at_start kinds.Mutex number = states.Mutex None
state_at_start kinds.Map number = states.Map []

-- Whether the state holds items or pairs: a step from it, or a copy of it, may take memory. Of the other states none does.
abbrev pub holds_items : ObjState → Bool
holds_items (states.Register value) = false
holds_items (states.Counter value) = false
holds_items (states.Queue items) = true
holds_items (states.Stack items) = true
holds_items (states.Set items) = true
holds_items (states.Mutex holder) = false
holds_items (states.Map pairs) = true

-- The operations of a kind by their names.
abbrev pub operations : Kind → List (List ℕ × OpMaker)
operations kinds.Register = register_operations
operations kinds.Counter = counter_operations
operations kinds.Queue = queue_operations
operations kinds.Stack = stack_operations
operations kinds.Set = set_operations
operations kinds.Mutex = mutex_operations
operations kinds.Map = map_operations

-- The operation of a kind with this name and these arguments; none where there is none.
abbrev pub op_with : Kind → List ℕ → List ℤ → Option Op
op_with kind word args = made_of (beside (operations kind) word) args

-- The operation of a kind with this name and these arguments, or what is wrong with it.
abbrev pub op_read : Kind → List ℕ → List ℤ → Result Op OpFault
op_read kind word args = op_made (beside (operations kind) word) args

-- The state after an operation of a process, and its reply. Where the table of the state's kind has no row for the
-- operation, or its row has no step, there is none, and such a call is never legal.
abbrev pub after : Behavior
after (states.Register value) process op = register_step value op
after (states.Counter value) process op = counter_step value op
after (states.Queue items) process op = queue_step items op
after (states.Stack items) process op = stack_step items op
after (states.Set items) process op = set_step items op
after (states.Mutex holder) process op = mutex_step holder process op
after (states.Map pairs) process op = map_step pairs op
