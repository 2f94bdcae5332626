use Rattle.std.proofs.Common.{◌≡◌, length}
use Rattle.lincheck.specs.Each.{AreStatusesOf, AreWitnessesOf}
use Rattle.lincheck.specs.Stored.{IsStoredTold}
use Rattle.lincheck.proofs.each.judge_each.Given as goal

-- the statuses so far are right, the lists are as they were, the number stored so far is told, and what is known of objects is right
abbrev pub invariant-loop-object : goal.invariant-loop-object
invariant-loop-object g l = AreStatusesOf l.history l.setting.bounds l.object l.statuses.items × (l.lists.items ≡ l.initial.lists.items) × IsStoredTold l.history l.object l.stored × (length l.witnesses.items ≡ l.object) × AreWitnessesOf l.history l.witnesses.items
