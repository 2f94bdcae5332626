use Rattle.std.proofs.Common.{refl, sym}
use Rattle.lin_ahead.proofs.queues.CountedLemmas.{same_rows}
use Rattle.lin_ahead.proofs.queues.rules.QueueRules.new.Goals as goal

pub returns-clause-rows : goal.returns-clause-rows
returns-clause-rows c = same_rows c.calls-calls.result.now c.args.problem.now.calls c.in_ok-counted.counted.items c.in_ok-counted.counted.items (sym c.calls-calls.ensures.calls) refl c.in_ok-counted.ensures
