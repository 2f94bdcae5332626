use Rattle.std.proofs.Common.{◌-◌, arith, ap, sym, ◌∙◌}
use Rattle.lin_history.specs.Problems.Problem.{problem_of}
use Rattle.lin_search.specs.EntryLinks.{one_completed}
use Rattle.lin_search.proofs.EntriesLemmas.{can_take, has_place, one_is_left, entries_lifted}
use Rattle.lin_search.proofs.entries.Entries.lift.Goals as goal
use Rattle.lin_search.proofs.entries.Entries.lift.Goals.{then-is_some, else-is_some}

pub take_out-requires-clause-links : goal.take_out-requires-clause-links
take_out-requires-clause-links g c =
    let i = c.self.inside in
    let p = problem_of g.O.SeqObject.after g.O.State.PartialEq.eq g.O.Reply.PartialEq.eq i.problem.now in
    can_take p i.events.items i.places i.links i.lifted.items i.lifted.cap i.left c.self.invariant c.args.call (rw (← c.self.view_is) at c.requires.within) (rw (← c.self.view_is) at c.requires.outside)

pub overflow_sub-self : goal.overflow_sub-self
overflow_sub-self g c =
    let i = c.self.inside in
    let p = problem_of g.O.SeqObject.after g.O.State.PartialEq.eq g.O.Reply.PartialEq.eq i.problem.now in
    let left = one_is_left p i.events.items i.places i.links i.lifted.items i.lifted.cap i.left c.self.invariant c.args.call (rw (← c.self.view_is) at c.requires.within) (rw (← c.self.view_is) at c.requires.outside) c.call.result.now c.call.ensures (sym c.is_some.ensures ∙ c.if-is_some.true) in
    omega (arith, left)

pub push_reserved-requires : goal.push_reserved-requires
push_reserved-requires g c =
    let i = c.self.inside in
    let p = problem_of g.O.SeqObject.after g.O.State.PartialEq.eq g.O.Reply.PartialEq.eq i.problem.now in
    let place = has_place p i.events.items i.places i.links i.lifted.items i.lifted.cap i.left c.self.invariant c.args.call (rw (← c.self.view_is) at c.requires.within) (rw (← c.self.view_is) at c.requires.outside) in
    let count = i.lifted.ok.0 in
    elim c.if-is_some.branch [
      | then-is_some w ↦ rw w.self-inside-is (omega (arith, place, count))
      | else-is_some w ↦ rw w.self-inside-is (omega (arith, place, count))
    ]

pub invariant_of-self : goal.invariant_of-self
invariant_of-self g c =
    let i = c.self.inside in
    let p = problem_of g.O.SeqObject.after g.O.State.PartialEq.eq g.O.Reply.PartialEq.eq i.problem.now in
    let within = rw (← c.self.view_is) at c.requires.within in
    let outside = rw (← c.self.view_is) at c.requires.outside in
    elim c.if-is_some.branch [
      | then-is_some w ↦ (
          let completed = sym c.is_some.ensures ∙ w.if-is_some.true in
          let one = ap one_completed completed in
          let left = one_is_left p i.events.items i.places i.links i.lifted.items i.lifted.cap i.left c.self.invariant c.args.call within outside c.call.result.now c.call.ensures completed in
          rw w.self-inside-is (
          entries_lifted p i.events.items i.places i.links i.lifted.items i.lifted.cap i.left c.self.invariant c.args.call within outside c.call.result.now c.call.ensures
          c.take_out.new.links c.push_reserved.new.self.items c.push_reserved.new.self.cap (i.left - 1) c.take_out.ensures (rw w.self-inside-is at c.push_reserved.ensures.items) (rw w.self-inside-is at c.push_reserved.ensures.capacity) (omega (arith, one, left))
          )
          )
      | else-is_some w ↦ (
          let none = ap one_completed (sym c.is_some.ensures ∙ w.if-is_some.false) in
          rw w.self-inside-is (
          entries_lifted p i.events.items i.places i.links i.lifted.items i.lifted.cap i.left c.self.invariant c.args.call within outside c.call.result.now c.call.ensures
          c.take_out.new.links c.push_reserved.new.self.items c.push_reserved.new.self.cap i.left c.take_out.ensures (rw w.self-inside-is at c.push_reserved.ensures.items) (rw w.self-inside-is at c.push_reserved.ensures.capacity) (omega (arith, none))
          )
          )
    ]
