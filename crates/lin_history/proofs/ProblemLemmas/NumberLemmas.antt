-- The greatest event number of a problem's calls, after one event more.
use Rattle.std.proofs.Common.{◌≡◌, ℕ, zero, suc, ◌<◌, ◌≤◌, Option, Some, None, List, [], ◌∷◌, ◌++◌, set, sym, arith}
use Rattle.std.specs.List.{slice_get}
use Rattle.lin_history.specs.declared.problems.problem.ProblemCall.{ProblemCall}
use Rattle.lin_history.specs.Problems.ProblemParts.{number_of, greatest_number}

module _ {Op Reply : Type 0} where
  -- a call's own number is within its greatest
  pub called_within : (c : ProblemCall Op Reply) (r : Option (ℕ × Reply)) → c.called ≤ number_of c r
  called_within c None = omega arith
  called_within c (Some r) = omega arith

  pub greatest_number-append : (cs : List (ProblemCall Op Reply)) (c : ProblemCall Op Reply) → c.returned ≡ None → greatest_number cs < c.called → greatest_number (cs ++ c ∷ []) ≡ c.called
  greatest_number-append [] c pending late = rw pending (omega arith)
  greatest_number-append (x ∷ xs) c pending late =
      let rest = greatest_number-append xs c pending (omega arith) in
      omega (arith, rest)

  pub greatest_number-pushed : (cs ds : List (ProblemCall Op Reply)) (c : ProblemCall Op Reply) → ds ≡ cs ++ c ∷ [] → c.returned ≡ None → greatest_number cs < c.called → c.called ≡ greatest_number ds
  greatest_number-pushed cs ds c pushed pending late = rw pushed (sym (greatest_number-append cs c pending late))

  head_returned : (c : ProblemCall Op Reply) (cs : List (ProblemCall Op Reply)) (number : ℕ) (reply : Reply) → greatest_number (c ∷ cs) < number → greatest_number (record c { returned = Some (number, reply) } ∷ cs) ≡ number
  head_returned c cs number reply late = let h = called_within c c.returned in omega (arith, h, late)

  pub greatest_number-set : (cs : List (ProblemCall Op Reply)) (call : ℕ) (c : ProblemCall Op Reply) (number : ℕ) (reply : Reply) → slice_get cs call ≡ Some c → greatest_number cs < number → greatest_number (set cs call (record c { returned = Some (number, reply) })) ≡ number
  greatest_number-set [] call c number reply there late = absurd (cc)
  greatest_number-set (x ∷ xs) zero c number reply there late =
      let same : x ≡ c = cc in rw (← same) (head_returned x xs number reply late)
  greatest_number-set (x ∷ xs) (suc call) c number reply there late =
      let rest = greatest_number-set xs call c number reply there (omega arith) in
      omega (arith, rest, late)
