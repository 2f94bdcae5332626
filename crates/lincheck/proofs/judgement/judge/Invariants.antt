use Rattle.std.proofs.Common.{◌≡◌}
use Rattle.lincheck.specs.Stored.{IsStoredTold}
use Rattle.lincheck.specs.Verdict.{AreLeastOf}
use Rattle.lincheck.proofs.judgement.judge.Given as goal

-- the orders so far are the least, the lists are as they were, and the number stored so far is told
abbrev pub invariant-loop-object : goal.invariant-loop-object
invariant-loop-object g l = AreLeastOf l.history l.object l.orders.items × (l.lists.items ≡ l.initial.lists.items) × IsStoredTold l.history l.object l.stored
