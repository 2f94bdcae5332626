use Rattle.lin_fewer.proofs.bearing.step.Goals as goal

pub least_return-bound-requires : goal.least_return-bound-requires
least_return-bound-requires g c = rw (c.problem.ensures, c.lifted.ensures, c.config.ensures, c.first.ensures) (c.requires.are c.args.place.now.index c.at-node.result.now (rw c.as_slice.ensures.value at c.at-node.ensures)).first

pub still_child-requires-clause-reachable : goal.still_child-requires-clause-reachable
still_child-requires-clause-reachable g c = (c.requires.are c.args.place.now.index c.at-node.result.now (rw c.as_slice.ensures.value at c.at-node.ensures)).reachable
