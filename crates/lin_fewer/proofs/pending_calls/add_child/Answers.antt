use Rattle.std.proofs.Common.{length, false, refl}
use Rattle.lin_history.specs.Problems.Problem.{problem_of}
use Rattle.lin_fewer.specs.Nodes.{Node, IsCovered}
use Rattle.lin_fewer.proofs.NodeLemmas.{covered_none, covered_no_worse, none_by_child}
use Rattle.lin_fewer.proofs.SearchLemmas.{child_has_below, more_itself, at_one, pending_pushed}
use Rattle.lin_fewer.proofs.pending_calls.add_child.Goals as goal

pub returns-then-has_no_worse-clause-more : goal.returns-then-has_no_worse-clause-more
returns-then-has_no_worse-clause-more g c = more_itself (problem_of g.O.SeqObject.after g.O.State.PartialEq.eq g.O.Reply.PartialEq.eq c.args.search.now) c.args.nodes.now.items c.args.index c.requires.nodes

pub returns-then-has_no_worse-clause-covered : goal.returns-then-has_no_worse-clause-covered
returns-then-has_no_worse-clause-covered g c = at_one c.args.nodes.now.items c.args.index c.at-from.result.now (λ (x : Node g.row.O-State.Denot). IsCovered (problem_of g.O.SeqObject.after g.O.State.PartialEq.eq g.O.Reply.PartialEq.eq c.args.search.now) c.args.nodes.now.items x.base (length c.args.nodes.now.items) x.config c.args.call) (rw c.as_slice.ensures.value at c.at-from.ensures) (covered_no_worse (problem_of g.O.SeqObject.after g.O.State.PartialEq.eq g.O.Reply.PartialEq.eq c.args.search.now) c.args.nodes.now.items c.at-from.result.now.base (length c.args.nodes.now.items) c.at-from.result.now.config c.args.call (rw c.problem.ensures at c.fewer_law.ensures) (c.requires.nodes c.args.index c.at-from.result.now (rw c.as_slice.ensures.value at c.at-from.ensures)).reachable.flags c.args.child (c.requires.child c.at-from.result.now (rw c.as_slice.ensures.value at c.at-from.ensures)) (rw (c.as_slice-2.ensures.value, c.link-link.ensures.base) at (c.has_no_worse.ensures c.if-has_no_worse.true)))

pub returns-clause-more : goal.returns-clause-more
returns-clause-more g c = rw (c.in_ok-push.ensures.items, c.new.ensures) (pending_pushed (problem_of g.O.SeqObject.after g.O.State.PartialEq.eq g.O.Reply.PartialEq.eq c.args.search.now) (rw c.problem.ensures at c.fewer_law.ensures) c.lawful.ensures.states c.args.nodes.now.items c.args.index c.args.call c.requires.nodes c.at-from.result.now (rw c.as_slice.ensures.value at c.at-from.ensures) (record { config = c.args.child; first = c.first-first.result; from = c.args.index; by = c.args.call; alone = false; base = c.link-link.result.base }) (c.requires.child c.at-from.result.now (rw c.as_slice.ensures.value at c.at-from.ensures)) c.requires.pending c.first-first.ensures refl refl c.link-link.ensures.base).0

pub returns-clause-covered : goal.returns-clause-covered
returns-clause-covered g c = rw (c.in_ok-push.ensures.items, c.new.ensures) (pending_pushed (problem_of g.O.SeqObject.after g.O.State.PartialEq.eq g.O.Reply.PartialEq.eq c.args.search.now) (rw c.problem.ensures at c.fewer_law.ensures) c.lawful.ensures.states c.args.nodes.now.items c.args.index c.args.call c.requires.nodes c.at-from.result.now (rw c.as_slice.ensures.value at c.at-from.ensures) (record { config = c.args.child; first = c.first-first.result; from = c.args.index; by = c.args.call; alone = false; base = c.link-link.result.base }) (c.requires.child c.at-from.result.now (rw c.as_slice.ensures.value at c.at-from.ensures)) c.requires.pending c.first-first.ensures refl refl c.link-link.ensures.base).1

pub refutes-requires-clause-reachable : goal.refutes-requires-clause-reachable
refutes-requires-clause-reachable g c = rw c.waiting.ensures (c.requires.child c.at-from.result.now (rw c.as_slice.ensures.value at c.at-from.ensures)).reachable

pub refutes-requires-clause-below : goal.refutes-requires-clause-below
refutes-requires-clause-below g c = rw (c.waiting.ensures, c.first-first.ensures) (child_has_below (problem_of g.O.SeqObject.after g.O.State.PartialEq.eq g.O.Reply.PartialEq.eq c.args.search.now) c.args.nodes.now.items c.args.index c.args.call c.requires.nodes c.at-from.result.now (rw c.as_slice.ensures.value at c.at-from.ensures) c.args.child (c.requires.child c.at-from.result.now (rw c.as_slice.ensures.value at c.at-from.ensures)))

pub returns-then-refutes-clause-more : goal.returns-then-refutes-clause-more
returns-then-refutes-clause-more g c = more_itself (problem_of g.O.SeqObject.after g.O.State.PartialEq.eq g.O.Reply.PartialEq.eq c.args.search.now) c.args.nodes.now.items c.args.index c.requires.nodes

pub returns-then-refutes-clause-covered : goal.returns-then-refutes-clause-covered
returns-then-refutes-clause-covered g c = at_one c.args.nodes.now.items c.args.index c.at-from.result.now (λ (x : Node g.row.O-State.Denot). IsCovered (problem_of g.O.SeqObject.after g.O.State.PartialEq.eq g.O.Reply.PartialEq.eq c.args.search.now) c.args.nodes.now.items x.base (length c.args.nodes.now.items) x.config c.args.call) (rw c.as_slice.ensures.value at c.at-from.ensures) (covered_none (problem_of g.O.SeqObject.after g.O.State.PartialEq.eq g.O.Reply.PartialEq.eq c.args.search.now) c.args.nodes.now.items c.at-from.result.now.base (length c.args.nodes.now.items) c.at-from.result.now.config c.args.call (none_by_child (problem_of g.O.SeqObject.after g.O.State.PartialEq.eq g.O.Reply.PartialEq.eq c.args.search.now) c.at-from.result.now.config c.args.call (c.requires.nodes c.args.index c.at-from.result.now (rw c.as_slice.ensures.value at c.at-from.ensures)).reachable.flags c.args.child (c.requires.child c.at-from.result.now (rw c.as_slice.ensures.value at c.at-from.ensures)) (rw c.waiting.ensures at (c.refutes.ensures c.if-refutes.true))))
