use Rattle.lin_ahead.proofs.values.PossibleOwnerLemmas.{not_zero, not_from_start}
use Rattle.lin_ahead.proofs.values.owners.may_be_from_start.Goals as goal

pub returns-then-finder-start : goal.returns-then-finder-start
returns-then-finder-start c = λ e. not_from_start c.args.calls.now c.args.start c.args.finder.now c.look_on.result.since c.requires.finder c.look_on.ensures (not_zero c.args.calls.now c.look_on.result.since e)
