use Rattle.std.proofs.Common.{◌≡◌, [], string_bytes}
use Rattle.lincheck.specs.Each.{AreWitnessesOf}
use Rattle.lincheck.proofs.EachLemmas.{ToldWritten}
use Rattle.lincheck.proofs.each_explained.report_told.Given as goal

-- the lines so far are right, the lists are as they were, and what is known of objects is
abbrev pub invariant-loop-object : goal.invariant-loop-object
invariant-loop-object g l = ToldWritten l.history l.lines l.statuses [] (string_bytes l.out) l.object × (l.lists.items ≡ l.initial.lists.items) × AreWitnessesOf l.history l.witnesses.items
