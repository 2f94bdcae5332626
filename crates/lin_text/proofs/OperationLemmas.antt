-- From what is read of a call's fields to its operation.
use Rattle.std.proofs.Common.{◌≡◌, ℕ, List, Option, Some, None, ap}
use Rattle.std.specs.Prelude.{ℤ, codes, ok_or, Ok}
use Rattle.serde_json.specs.Data.{Data}
use Rattle.lin_object.specs.declared.kind.Kind.{Kind}
use Rattle.lin_object.specs.declared.op.Op.{Op}
use Rattle.lin_object.specs.declared.op.OpFault.TheVariants as faults
use Rattle.lin_object.specs.Names.{beside, op_made}
use Rattle.lin_object.specs.Kinds.{operations, op_read}
use Rattle.lin_text.specs.declared.cause.Cause.TheVariants as causes
use Rattle.lin_text.specs.Fields.{text_at, maker_at, arguments_in, op_from, op_at}

given : (made : Option Op) (op : Op) → ok_or made faults.BadArgs ≡ Ok op → ok_or made causes.BadArgs ≡ Ok op
given None op e = absurd (cc)
given (Some x) op e = let same : x ≡ op = cc in ap Ok same

from_made : (maker : Option (List ℤ → Option Op)) (args : List ℤ) (op : Op) → op_made maker args ≡ Ok op → op_from maker (Some args) ≡ Ok op
from_made None args op e = absurd (cc)
from_made (Some make) args op e = given (make args) op e

pub op_there : (kind : Kind) (d : Data) (word : List ℕ) (args : List ℤ) (op : Op) → text_at (codes "op") d ≡ Some word → arguments_in d ≡ Some args → op_read kind word args ≡ Ok op → op_at kind d ≡ Ok op
unfolding maker_at
op_there kind d word args op text arguments read = rw (text, arguments) (from_made (beside (operations kind) word) args op read)
