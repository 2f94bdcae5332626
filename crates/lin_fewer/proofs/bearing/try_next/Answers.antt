use Rattle.std.proofs.Common.{ℕ, sym, subst, length, ◌∙◌, arith}
use Rattle.lin_history.specs.Problems.Problem.{problem_of}
use Rattle.lin_search.specs.SameLemmas.{alike_itself}
use Rattle.lin_fewer.specs.Nodes.{Node, IsCovered}
use Rattle.lin_fewer.specs.Fronts.{IsLeastReturn}
use Rattle.lin_fewer.proofs.SearchLemmas.{at_one, at_base, more_same, more_within, search_more, search_next, passed_by}
use Rattle.lin_fewer.proofs.bearing.try_next.Goals as goal

pub least_return-bound-requires : goal.least_return-bound-requires
least_return-bound-requires g c = rw (c.problem.ensures, c.lifted.ensures, c.config.ensures, c.first.ensures) (c.requires.search.are c.args.place.now.index c.at-node.result.now (rw c.as_slice.ensures.value at c.at-node.ensures)).first

pub next_call-requires-clause-search : goal.next_call-requires-clause-search
next_call-requires-clause-search g c = rw c.as_slice-2.ensures.value c.requires.search

pub next_call-requires-clause-index : goal.next_call-requires-clause-index
next_call-requires-clause-index g c = rw c.as_slice-2.ensures.value c.requires.index

pub next_call-requires-clause-bound : goal.next_call-requires-clause-bound
next_call-requires-clause-bound g c = rw c.as_slice-2.ensures.value (at_one c.args.nodes.now.items c.args.place.now.index c.at-node.result.now (λ (x : Node g.row.O-State.Denot). IsLeastReturn (problem_of g.O.SeqObject.after g.O.State.PartialEq.eq g.O.Reply.PartialEq.eq c.args.search.now) x.config.lifted c.least_return-bound.result) (rw c.as_slice.ensures.value at c.at-node.ensures) (rw (c.problem.ensures, c.lifted.ensures, c.config.ensures) at c.least_return-bound.ensures))

pub returns-in_default-clause-goes_on : goal.returns-in_default-clause-goes_on
returns-in_default-clause-goes_on g c = search_next (problem_of g.O.SeqObject.after g.O.State.PartialEq.eq g.O.Reply.PartialEq.eq c.args.search.now) c.cover_pending.new.nodes.items c.args.place.now.base c.args.place.now.index c.args.place.now.next (search_more (problem_of g.O.SeqObject.after g.O.State.PartialEq.eq g.O.Reply.PartialEq.eq c.args.search.now) c.args.nodes.now.items c.cover_pending.new.nodes.items c.args.place.now.base c.args.place.now.index c.args.place.now.next c.requires.search c.requires.index c.in_ok-cover_pending.ensures.more) (more_within (problem_of g.O.SeqObject.after g.O.State.PartialEq.eq g.O.Reply.PartialEq.eq c.args.search.now) c.args.nodes.now.items c.cover_pending.new.nodes.items c.args.place.now.index c.in_ok-cover_pending.ensures.more c.requires.index) c.at-node.result.now (sym (more_same (problem_of g.O.SeqObject.after g.O.State.PartialEq.eq g.O.Reply.PartialEq.eq c.args.search.now) c.args.nodes.now.items c.cover_pending.new.nodes.items c.args.place.now.index c.in_ok-cover_pending.ensures.more c.args.place.now.index c.requires.index) ∙ (rw c.as_slice.ensures.value at c.at-node.ensures)) (λ d. subst (λ (i : ℕ). IsCovered (problem_of g.O.SeqObject.after g.O.State.PartialEq.eq g.O.Reply.PartialEq.eq c.args.search.now) c.cover_pending.new.nodes.items i (length c.cover_pending.new.nodes.items) c.at-node.result.now.config d) (at_base (problem_of g.O.SeqObject.after g.O.State.PartialEq.eq g.O.Reply.PartialEq.eq c.args.search.now) c.args.nodes.now.items c.args.place.now.base c.args.place.now.index c.args.place.now.next c.requires.search c.at-node.result.now c.requires.index (rw c.as_slice.ensures.value at c.at-node.ensures)) (c.in_ok-cover_pending.ensures.covered d c.at-node.result.now (sym (more_same (problem_of g.O.SeqObject.after g.O.State.PartialEq.eq g.O.Reply.PartialEq.eq c.args.search.now) c.args.nodes.now.items c.cover_pending.new.nodes.items c.args.place.now.index c.in_ok-cover_pending.ensures.more c.args.place.now.index c.requires.index) ∙ (rw c.as_slice.ensures.value at c.at-node.ensures)))) (rw (c.as_slice-2.ensures.value, c.in_default.is) at c.next_call.ensures.none c.at-node.result.now (rw c.as_slice.ensures.value at c.at-node.ensures))

pub returns-in_default-clause-first : goal.returns-in_default-clause-first
returns-in_default-clause-first g c = sym (more_same (problem_of g.O.SeqObject.after g.O.State.PartialEq.eq g.O.Reply.PartialEq.eq c.args.search.now) c.args.nodes.now.items c.cover_pending.new.nodes.items c.args.place.now.index c.in_ok-cover_pending.ensures.more 0 (let i = c.requires.index in omega (arith, i)))

pub child_of-requires-clause-reachable : goal.child_of-requires-clause-reachable
child_of-requires-clause-reachable g c = rw (c.problem-2.ensures, c.config-2.ensures) (c.requires.search.are c.args.place.now.index c.at-node.result.now (rw c.as_slice.ensures.value at c.at-node.ensures)).reachable

pub overflow_add-place-in_default-2 : goal.overflow_add-place-in_default-2
overflow_add-place-in_default-2 g c = (let w = (c.in-Some.ensures.minimal c.at-node.result.now (rw (c.as_slice-2.ensures.value) (rw c.as_slice.ensures.value at c.at-node.ensures))).within in let f = rw c.problem-in_default-2.ensures at c.calls-calls.ensures.few in omega (arith, w, f))

pub returns-in_default-2-clause-goes_on : goal.returns-in_default-2-clause-goes_on
returns-in_default-2-clause-goes_on g c = passed_by (problem_of g.O.SeqObject.after g.O.State.PartialEq.eq g.O.Reply.PartialEq.eq c.args.search.now) (alike_itself c.lawful.ensures c.args.search.now) c.args.nodes.now.items c.args.place.now.base c.args.place.now.index c.args.place.now.next c.in-Some.call c.requires.search c.requires.index c.at-node.result.now (rw c.as_slice.ensures.value at c.at-node.ensures) (rw (c.problem-2.ensures, c.config-2.ensures) at (rw c.in_default-2.is at c.in_ok-child.ensures.none)) (rw c.as_slice-2.ensures.value at c.in-Some.ensures.before)

pub enter-requires-clause-below : goal.enter-requires-clause-below
enter-requires-clause-below g c = λ _. (rw c.as_slice-2.ensures.value at c.in-Some.ensures.before)
