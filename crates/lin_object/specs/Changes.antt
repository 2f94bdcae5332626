-- Changes of a state in place, taken back (this project's own).
use Rattle.std.specs.Prelude.{◌-◌, ◌∷◌, length, take, drop, set, remove, insert}
use Rattle.lin_object.specs.declared.state.ObjState.{ObjState}
use Rattle.lin_object.specs.declared.state.ObjState.TheVariants.{Register, Counter, Queue, Stack, Set, Mutex, Map}
use Rattle.lin_object.specs.declared.step_back.Change.{Change}
use Rattle.lin_object.specs.declared.step_back.Change.TheVariants.{Value, Holder, PutLast, PutFirst, TookFirst, PutItem, TookItem, PutPair, ReplacedPair, TookPair}

-- The state before the change that led to this one. What no step changes of a state of the kind is left as it is.
abbrev pub undone : Change → ObjState → ObjState
undone (Value before) (Register value) = Register before
undone (Value before) (Counter number) = Counter before
undone (Holder before) (Mutex holder) = Mutex before
undone PutLast (Queue items) = Queue (take (length items - 1) items)
undone PutFirst (Stack items) = Stack (drop 1 items)
undone (TookFirst item) (Queue items) = Queue (item ∷ items)
undone (TookFirst item) (Stack items) = Stack (item ∷ items)
undone (PutItem place) (Set items) = Set (remove items place)
undone (TookItem place item) (Set items) = Set (insert items place item)
undone (PutPair place) (Map pairs) = Map (remove pairs place)
undone (ReplacedPair place pair) (Map pairs) = Map (set pairs place pair)
undone (TookPair place pair) (Map pairs) = Map (insert pairs place pair)
undone change t = t
