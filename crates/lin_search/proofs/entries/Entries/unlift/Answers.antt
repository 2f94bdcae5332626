use Rattle.std.proofs.Common.{◌+◌, arith, ap, sym, ◌∙◌}
use Rattle.lin_history.specs.Problems.Problem.{problem_of}
use Rattle.lin_search.specs.EntryLinks.{one_completed}
use Rattle.lin_search.proofs.EntriesLemmas.{called_within, returned_within, unlifted_within, can_put, one_more_left, entries_unlifted, taken_off}
use Rattle.lin_search.proofs.entries.Entries.unlift.Goals as goal
use Rattle.lin_search.proofs.entries.Entries.unlift.Goals.{then-is_some, else-is_some}

pub put_back-requires-clause-called : goal.put_back-requires-clause-called
put_back-requires-clause-called g c =
    let i = c.self.inside in
    let p = problem_of g.O.SeqObject.after g.O.State.PartialEq.eq g.O.Reply.PartialEq.eq i.problem.now in
    let last = rw (← c.self.view_is) at c.requires.last.1 in
    called_within p i.events.items i.places i.links i.lifted.items i.lifted.cap i.left c.self.invariant c.args.call (unlifted_within p i.events.items i.places i.links i.lifted.items c.requires.last.0 c.args.call i.lifted.cap i.left last c.self.invariant)

pub put_back-requires-clause-returned : goal.put_back-requires-clause-returned
put_back-requires-clause-returned g c =
    let i = c.self.inside in
    let p = problem_of g.O.SeqObject.after g.O.State.PartialEq.eq g.O.Reply.PartialEq.eq i.problem.now in
    let last = rw (← c.self.view_is) at c.requires.last.1 in
    returned_within p i.events.items i.places i.links i.lifted.items i.lifted.cap i.left c.self.invariant c.args.call (unlifted_within p i.events.items i.places i.links i.lifted.items c.requires.last.0 c.args.call i.lifted.cap i.left last c.self.invariant)

pub put_back-requires-clause-links : goal.put_back-requires-clause-links
put_back-requires-clause-links g c =
    let i = c.self.inside in
    let p = problem_of g.O.SeqObject.after g.O.State.PartialEq.eq g.O.Reply.PartialEq.eq i.problem.now in
    let last = rw (← c.self.view_is) at c.requires.last.1 in
    can_put p i.events.items i.places i.links i.lifted.items c.requires.last.0 c.args.call i.lifted.cap i.left last c.self.invariant

pub call-requires : goal.call-requires
call-requires g c =
    let i = c.self.inside in
    let p = problem_of g.O.SeqObject.after g.O.State.PartialEq.eq g.O.Reply.PartialEq.eq i.problem.now in
    let last = rw (← c.self.view_is) at c.requires.last.1 in
    unlifted_within p i.events.items i.places i.links i.lifted.items c.requires.last.0 c.args.call i.lifted.cap i.left last c.self.invariant

pub overflow_add-self : goal.overflow_add-self
overflow_add-self g c =
    let i = c.self.inside in
    let p = problem_of g.O.SeqObject.after g.O.State.PartialEq.eq g.O.Reply.PartialEq.eq i.problem.now in
    let last = rw (← c.self.view_is) at c.requires.last.1 in
    let left = one_more_left p i.events.items i.places i.links i.lifted.items c.requires.last.0 c.args.call i.lifted.cap i.left last c.self.invariant c.call.result.now c.call.ensures (sym c.is_some.ensures ∙ c.if-is_some.true) in
    let room = c.self.invariant.has_room in
    let small = i.lifted.small in
    omega (arith, left, room, small)

pub invariant_of-self : goal.invariant_of-self
invariant_of-self g c =
    let i = c.self.inside in
    let p = problem_of g.O.SeqObject.after g.O.State.PartialEq.eq g.O.Reply.PartialEq.eq i.problem.now in
    let last = rw (← c.self.view_is) at c.requires.last.1 in
    let count = i.lifted.ok.0 in
    elim c.if-is_some.branch [
      | then-is_some w ↦ (
          let one = ap one_completed (sym c.is_some.ensures ∙ w.if-is_some.true) in
          rw w.self-inside-is (
          entries_unlifted p i.events.items i.places i.links i.lifted.items c.requires.last.0 c.args.call i.lifted.cap i.left last c.self.invariant c.call.result.now c.call.ensures
          c.put_back.new.links c.pop.new.self.items c.pop.new.self.cap (i.left + 1) c.put_back.ensures (taken_off i.lifted.items c.requires.last.0 c.pop.new.self.items c.args.call i.lifted.len last count (rw w.self-inside-is at c.pop.ensures.rest)) (rw w.self-inside-is at c.pop.ensures.capacity) (omega (arith, one))
          )
          )
      | else-is_some w ↦ (
          let none = ap one_completed (sym c.is_some.ensures ∙ w.if-is_some.false) in
          rw w.self-inside-is (
          entries_unlifted p i.events.items i.places i.links i.lifted.items c.requires.last.0 c.args.call i.lifted.cap i.left last c.self.invariant c.call.result.now c.call.ensures
          c.put_back.new.links c.pop.new.self.items c.pop.new.self.cap i.left c.put_back.ensures (taken_off i.lifted.items c.requires.last.0 c.pop.new.self.items c.args.call i.lifted.len last count (rw w.self-inside-is at c.pop.ensures.rest)) (rw w.self-inside-is at c.pop.ensures.capacity) (omega (arith, none))
          )
          )
    ]
