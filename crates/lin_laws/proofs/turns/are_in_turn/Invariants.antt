use Rattle.std.specs.Prelude.{nat_eq}
use Rattle.indexmap.specs.IndexMap.{get}
use Rattle.lin_laws.proofs.TurnLemmas.{InTurnTo, AreNoted, AreCallsOf}
use Rattle.std.proofs.Common.{nat_eq}
use Rattle.indexmap.specs.IndexMap.{get}
use Rattle.lin_laws.proofs.turns.are_in_turn.Given as goal

abbrev pub invariant-loop-call : goal.invariant-loop-call
invariant-loop-call l = record {
  turn : InTurnTo l.problem l.call;
  noted : AreNoted l.problem l.call (get nat_eq l.last);
  calls : AreCallsOf l.problem l.call (get nat_eq l.last);
}
