use Rattle.lin_search.specs.CountLemmas.{has_stored}
use Rattle.lin_workers.proofs.check.number_stored.Goals as goal

pub returns-then-stored-lt-STORED_BOUND : goal.returns-then-stored-lt-STORED_BOUND
returns-then-stored-lt-STORED_BOUND g c = record {
  stored = record {
    few = c.if-stored-lt-STORED_BOUND.true;
    reachable = has_stored _ _ _ c.count-stored.ensures.store c.count-stored.ensures.count;
  };
}
