-- How a refusal is printed (this project's own).
use Rattle.std.specs.Prelude.{◌++◌, ℕ, List, codes}
use Rattle.std.specs.Fmt.{decimal}
use Rattle.lin_text.specs.declared.text.TheConstants.{MAX_INPUT_BYTES, MAX_LINE_BYTES}
use Rattle.lin_text.specs.declared.cause.Cause.{Cause}
use Rattle.lin_text.specs.declared.cause.Cause.TheVariants as causes
use Rattle.lin_text.specs.declared.cause.TextFault.{TextFault}

-- The words of each cause.
abbrev pub words : Cause → List ℕ
words causes.InputTooLong = codes "input is longer than " ++ decimal MAX_INPUT_BYTES ++ codes " bytes"
words causes.LineTooLong = codes "line is longer than " ++ decimal MAX_LINE_BYTES ++ codes " bytes"
words causes.NotJson = codes "not JSON"
words causes.NotObject = codes "not a JSON object"
words causes.BadFormat = codes "bad format"
words causes.BadEvent = codes "bad event"
words causes.BadProcess = codes "bad process"
words causes.BadObject = codes "bad object name"
words causes.UnknownObject = codes "unknown object"
words causes.BadKind = codes "bad kind"
words causes.BadStart = codes "bad start"
words causes.BadOp = codes "bad operation"
words causes.BadArgs = codes "bad arguments"
words causes.BadResult = codes "bad result"
words causes.Declared = codes "object is declared already"
words (causes.ProcessEnded process) = codes "process " ++ decimal process ++ codes " has ended"
words (causes.Busy process) = codes "process " ++ decimal process ++ codes " has a pending call"
words (causes.NoCall process) = codes "process " ++ decimal process ++ codes " has no pending call"
words (causes.OtherObject process) = codes "process " ++ decimal process ++ codes " has its pending call on another object"
words causes.TooManyObjects = codes "too many objects"
words causes.TooManyCalls = codes "too many calls"
words causes.OutOfMemory = codes "out of memory"

-- The line of a fault: the number of its line, and the words of its cause.
abbrev pub fault_line : TextFault → List ℕ
fault_line fault = codes "line " ++ decimal fault.line ++ codes ": " ++ words fault.cause ++ codes "\n"
