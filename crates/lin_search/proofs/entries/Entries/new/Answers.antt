use Rattle.std.proofs.Common.{arith}
use Rattle.lin_history.specs.Problems.Problem.{problem_of}
use Rattle.lin_search.proofs.EntriesLemmas.{entries_start, completed_within}
use Rattle.lin_search.proofs.entries.Entries.new.Goals as goal

pub row_of-requires-clause-returned : goal.row_of-requires-clause-returned
row_of-requires-clause-returned g c =
    let p = problem_of g.O.SeqObject.after g.O.State.PartialEq.eq g.O.Reply.PartialEq.eq c.args.problem.now in
    rw (c.as_slice.ensures.value, c.len-2.ensures) (λ i a e. completed_within p a (c.in_ok-events.ensures.of_return i a e))

pub invariant_of-result : goal.invariant_of-result
invariant_of-result g c =
    let p = problem_of g.O.SeqObject.after g.O.State.PartialEq.eq g.O.Reply.PartialEq.eq c.args.problem.now in
    entries_start p c.in_ok-events.events.items c.in_ok-places.places c.in_ok-places.links c.in_ok-lifted.lifted.items c.in_ok-lifted.lifted.cap c.completed_calls.result
    c.in_ok-events.ensures
    (rw (c.as_slice.ensures.value, c.len-2.ensures) at c.in_ok-places.ensures.places)
    (rw (c.as_slice.ensures.value) at c.in_ok-places.ensures.row)
    c.in_ok-lifted.ensures.items
    (let room = c.in_ok-lifted.ensures.capacity in let count = c.len.ensures in omega (arith, room, count))
    c.completed_calls.ensures
