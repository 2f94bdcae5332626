use Rattle.std.proofs.Common.{[], rules}
use Rattle.lin_ahead.proofs.queues.AnyLemmas.{of_any}
use Rattle.lin_ahead.proofs.items.TakerLemmas.{known_few}
use Rattle.lin_ahead.proofs.queues.rules.QueueRulesRulesAnyObject.leads_to_none.Goals as goal

pub returns : goal.returns
returns c =
    known_few (of_any c.args.problem.now [] c.requires.right.0.start) c.args.config.now.lifted c.args.config.now.state c.args.call c.args.state.now _ c.requires.next (search rules) c.lacks_takers.result c.lacks_takers.ensures
