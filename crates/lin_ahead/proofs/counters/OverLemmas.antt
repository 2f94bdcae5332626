-- Calls that are too much for a get of a counter begin no completion of a reachable configuration.
use Rattle.std.proofs.Common.{ℕ, Bool, List, ◌∷◌, ◌++◌, refl}
use Rattle.lin_object.specs.declared.op.Op.{Op}
use Rattle.lin_object.specs.declared.reply.Reply.{Reply}
use Rattle.lin_object.specs.declared.state.ObjState.{ObjState}
use Rattle.lin_history.specs.Problems.Problem.{Problem}
use Rattle.lin_history.specs.Problems.Configurations.{IsReachable}
use Rattle.lin_search.specs.AlikeLemmas.{AreAlike}
use Rattle.lin_ahead.specs.declared.counters.rows.SumRows.{SumRows}
use Rattle.lin_ahead.specs.First.FirstProgress.{BeginsNone}
use Rattle.lin_ahead.specs.Counters.Sums.{IsOver, NoneIsOver}
use Rattle.lin_ahead.proofs.first.NeedsLemmas.{joined}

module _ (p : Problem ObjState Op Reply) where
  -- no completion of a reachable configuration begins with a call that is too much
  pub over_begins_none : AreAlike p p → (rows : SumRows) → NoneIsOver p rows → (set : List Bool) (s : ObjState) → IsReachable p set s → (c : ℕ) → IsOver p rows set c → BeginsNone p set s c
  over_begins_none alike rows never set s k c is cs h =
      never (k.run.0 ++ c ∷ cs) k.run.0 cs c set (joined p alike set s k (c ∷ cs) h) refl k.run.2 is
