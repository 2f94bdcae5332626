use Rattle.lin_search.proofs.WindowLemmas.{flags_none}
use Rattle.lin_search.proofs.CallSetFieldsLemmas.{kept_none}
use Rattle.lin_search.proofs.call_set.CallSet.none.Goals as goal

pub invariant_of-result : goal.invariant_of-result
invariant_of-result c = rw c.new.ensures.items (kept_none c.args.calls c.requires)

pub returns : goal.returns
returns c = rw c.new.ensures.items (flags_none c.args.calls)
