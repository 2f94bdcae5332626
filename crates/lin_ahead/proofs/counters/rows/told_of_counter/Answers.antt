use Rattle.lin_ahead.proofs.counters.rows.told_of_counter.Goals as goal

pub limits-requires : goal.limits-requires
limits-requires c = rw c.as_slice.ensures.value c.in_ok-events.ensures

pub limits-requires-2 : goal.limits-requires-2
limits-requires-2 c = rw c.as_slice-2.ensures.value c.in_ok-events.ensures
