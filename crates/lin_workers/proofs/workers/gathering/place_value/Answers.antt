use Rattle.lin_workers.proofs.OutcomeLemmas.{placed_at}
use Rattle.lin_workers.proofs.workers.gathering.place_value.Goals as goal

pub returns-then-not-is_stopped : goal.returns-then-not-is_stopped
returns-then-not-is_stopped c = placed_at c.args.outcomes.now c.args.number c.args.outcome (c.was_stopped-is_stopped.ensures.other c.if-not-is_stopped.true)
