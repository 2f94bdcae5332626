use Rattle.lin_history.specs.Problems.Problem.{problem_of}
use Rattle.lin_search.proofs.EntriesLemmas.{next_inside, next_above, next_least}
use Rattle.lin_search.proofs.entries.Entries.next_minimal.Goals as goal

pub next-requires : goal.next-requires
next-requires g c =
    let i = c.self.inside in
    rw c.called-entry.ensures (next_inside (problem_of g.O.SeqObject.after g.O.State.PartialEq.eq g.O.Reply.PartialEq.eq i.problem.now) i.events.items i.places i.links i.lifted.items i.lifted.cap i.left c.self.invariant c.args.call (rw (← c.self.view_is) at c.requires))

pub call_at-requires : goal.call_at-requires
call_at-requires g c =
    let i = c.self.inside in
    rw (c.next.ensures, c.called-entry.ensures) (next_above (problem_of g.O.SeqObject.after g.O.State.PartialEq.eq g.O.Reply.PartialEq.eq i.problem.now) i.events.items i.places i.links i.lifted.items i.lifted.cap i.left c.self.invariant c.args.call (rw (← c.self.view_is) at c.requires))

pub returns : goal.returns
returns g c =
    let i = c.self.inside in
    rw (← c.self.view_is, c.call_at.ensures, c.as_slice.ensures.value, c.next.ensures, c.called-entry.ensures)
    (next_least (problem_of g.O.SeqObject.after g.O.State.PartialEq.eq g.O.Reply.PartialEq.eq i.problem.now) i.events.items i.places i.links i.lifted.items i.lifted.cap i.left c.self.invariant c.args.call (rw (← c.self.view_is) at c.requires))
