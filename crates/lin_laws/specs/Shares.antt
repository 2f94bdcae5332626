-- What the calls of a counter add, upwards or downwards (this project's own).
use Rattle.std.specs.Prelude.{ℕ, suc, ◌+◌, ℤ, pos, negsuc, Bool, true, false, Option, Some, None, List, [], ◌∷◌, slice_get}
use Rattle.lin_object.specs.declared.op.Op.{Op}
use Rattle.lin_object.specs.declared.op.Op.TheVariants.{Add}
use Rattle.lin_object.specs.declared.reply.Reply.{Reply}
use Rattle.lin_history.specs.declared.problems.problem.ProblemCall.{ProblemCall}

-- What a number adds in a direction, upwards or else downwards.
abbrev pub share_in : Bool → ℤ → ℕ
share_in true (pos n) = n
share_in true (negsuc n) = 0
share_in false (pos n) = 0
share_in false (negsuc n) = suc n

-- What an operation adds in that direction.
abbrev pub share_of : Bool → Op → ℕ
share_of up (Add d) = share_in up d
share_of up op = 0

-- What the call of this number adds in that direction.
abbrev pub share_of_call : Bool → Option (ProblemCall Op Reply) → ℕ
share_of_call up None = 0
share_of_call up (Some x) = share_of up x.op

-- The sum of a number of each call over a list.
abbrev pub total : (ℕ → ℕ) → List ℕ → ℕ
total f [] = 0
total f (c ∷ cs) = f c + total f cs

-- The sum of what these calls add in that direction.
abbrev pub sum_of_shares : Bool → List (ProblemCall Op Reply) → List ℕ → ℕ
sum_of_shares up calls l = total (λ c. share_of_call up (slice_get calls c)) l
