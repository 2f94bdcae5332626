-- What lets a reader see that an object has no order (this project's own).
use Rattle.lin_object.specs.declared.op.Op.{Op}
use Rattle.lin_object.specs.declared.reply.Reply.{Reply}
use Rattle.lin_object.specs.declared.state.ObjState.{ObjState}
use Rattle.lin_history.specs.Problems.Problem.{Problem}
use Rattle.lin_core.specs.Cores.{IsCoreOf}
use Rattle.lin_core.specs.Sums.{IsSumFault}
use Rattle.lincheck.specs.declared.object_fault.ObjectFault.{ObjectFault}
use Rattle.lincheck.specs.declared.object_fault.ObjectFault.TheVariants.{Core, Sums}

-- Some of its calls that alone have none, or a get for whose reply the adds leave no room.
abbrev pub IsFaultOf : Problem ObjState Op Reply → ObjectFault → Type 0
IsFaultOf p (Core core) = IsCoreOf p core.from core.event core.key core.values.items core.calls.items core.firsts.items
IsFaultOf p (Sums fault) = IsSumFault p fault
