use Rattle.std.proofs.Common.{refl}
use Rattle.lin_search.proofs.entries.called_at.Goals as goal

pub returns-in-Call : goal.returns-in-Call
returns-in-Call c = rw c.in-Call.is refl

pub returns-in-Return : goal.returns-in-Return
returns-in-Return c = rw c.in-Return.is refl
