use Rattle.std.proofs.Common.{◌≡◌, ◌<◌, vec_len, All}
use Rattle.lin_table.specs.Hand.{CameWith}
use Rattle.lin_table.specs.Gather.{Gathered}
use Rattle.lin_table.proofs.gather.gather.Given as goal

abbrev pub decreases-loop-hand : goal.decreases-loop-hand
decreases-loop-hand g l = vec_len l.hands

abbrev pub invariant-loop-hand : goal.invariant-loop-hand
invariant-loop-hand g l = record {
  same : l.first.table_id ≡ l.initial.first.table_id;
  slots : l.first.me.1 ≡ l.initial.first.me.1;
  each : All (CameWith l.initial.first.table_id) l.hands.items;
  gathered : Gathered l.initial.first.me.0 l.initial.hands.items l.first.me.0 l.hands.items;
  part : 0 < l.first.me.0.parts;
}
