-- What is told ahead of a register's problem, of its calls by real time: which calls may have written what a call found, and the numbers of those that alone did (this project's own).
use Rattle.std.specs.Prelude.{◌⊎◌, ℤ, List, IsTrue}
use Rattle.lin_object.specs.declared.op.Op.{Op}
use Rattle.lin_object.specs.declared.reply.Reply.{Reply}
use Rattle.lin_history.specs.declared.problems.problem.ProblemCall.{ProblemCall}
use Rattle.lin_ahead.specs.declared.values.rows.ValuesAhead.{ValuesAhead}
use Rattle.lin_ahead.specs.Values.Narrowing.{AreRightRows}
use Rattle.lin_ahead.specs.Values.PossibleOwners.{AreToldWhereFew}
use Rattle.lin_ahead.specs.Values.Balance.{AreTooManyTakers}
use Rattle.lin_ahead.specs.Values.Ranks.{AreRanksBroken}
use Rattle.lin_ahead.specs.Values.Clusters.{AreClusterNumbers, FoundNowhere, NeedEachOther}

-- All is told that follows from the rows of owners, on a register that starts with this value.
pub record IsToldOfRegister (start : ℤ) (calls : List (ProblemCall Op Reply)) (ahead : ValuesAhead) : Type 0 where
  pub owners : AreRightRows calls start ahead.owners.items
  -- It is said of each call that found a value which calls may have written it, if no more than MOST_OWNERS calls may write that value.
  pub few : AreToldWhereFew calls ahead.owners.items
  pub numbers : AreClusterNumbers calls ahead.owners.items ahead.needs
  -- There is no linearization by these facts alone where a call found what is nowhere, two calls need each other, more took values
  -- away than made them, or two break the ranks of values.
  pub in_vain : IsTrue ahead.in_vain → FoundNowhere ahead.owners.items ⊎ (NeedEachOther calls ahead.owners.items ⊎ (AreTooManyTakers calls ahead.owners.items ⊎ AreRanksBroken calls))
  pub in_vain_told : FoundNowhere ahead.owners.items ⊎ NeedEachOther calls ahead.owners.items → IsTrue ahead.in_vain
