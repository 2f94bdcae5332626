use Rattle.std.proofs.Common.{◌≡◌, ◌+◌, drop}
use Rattle.lin_ahead.specs.Queues.CountedRows.{lifted_among}
use Rattle.lin_ahead.proofs.queues.early_enqueues.are_lifted.Given as goal

-- what is still looked for, among the calls that are left, as all that is looked for among all
abbrev pub invariant-loop-one : goal.invariant-loop-one
invariant-loop-one l = lifted_among l.config.lifted (drop l.one-index l.these) + l.many ≡ lifted_among l.config.lifted l.these + l.left
