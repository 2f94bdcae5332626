-- What a refusal of the builder says of a text.
use Rattle.lin_history.specs.declared.recorder.fault.BuildFault.{BuildFault}
use Rattle.lin_history.specs.declared.recorder.fault.BuildFault.TheVariants as faults
use Rattle.lin_text.specs.declared.cause.Cause.{Cause}
use Rattle.lin_text.specs.declared.cause.Cause.TheVariants as causes

-- The cause that a text has where its events are refused so.
abbrev pub cause_of : BuildFault → Cause
cause_of faults.BadName = causes.BadObject
cause_of faults.Declared = causes.Declared
cause_of faults.UnknownObject = causes.UnknownObject
cause_of (faults.ProcessEnded process) = causes.ProcessEnded process
cause_of (faults.Busy process) = causes.Busy process
cause_of (faults.NoCall process) = causes.NoCall process
cause_of (faults.OtherObject process) = causes.OtherObject process
cause_of faults.TooManyObjects = causes.TooManyObjects
cause_of faults.TooManyCalls = causes.TooManyCalls
cause_of faults.OutOfMemory = causes.OutOfMemory
