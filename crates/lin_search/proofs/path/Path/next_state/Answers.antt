use Rattle.lin_search.proofs.path.Path.next_state.Goals as goal

pub next_state-requires-clause-reachable : goal.next_state-requires-clause-reachable
next_state-requires-clause-reachable g c = rw c.problem.ensures c.requires.reachable

pub next_state-requires-clause-minimal : goal.next_state-requires-clause-minimal
next_state-requires-clause-minimal g c = rw c.problem.ensures c.requires.minimal

pub returns-clause-next : goal.returns-clause-next
returns-clause-next g c = rw c.problem.ensures at c.next_state.ensures.next

pub returns-clause-reachable : goal.returns-clause-reachable
returns-clause-reachable g c = rw c.problem.ensures at c.next_state.ensures.reachable

pub returns-clause-none : goal.returns-clause-none
returns-clause-none g c = rw c.problem.ensures at c.next_state.ensures.none
