use Rattle.std.proofs.Common.{length, sym, ◌∙◌}
use Rattle.lin_history.specs.Problems.Problem.{problem_of}
use Rattle.lin_search.specs.SameLemmas.{alike_itself}
use Rattle.lin_fewer.specs.Nodes.{Node, IsCovered}
use Rattle.lin_fewer.proofs.FrontLemmas.{minimal_by, lifted_begins}
use Rattle.lin_fewer.proofs.NodeLemmas.{covered_none, covered_identical, covered_needless, none_not_next}
use Rattle.lin_fewer.proofs.SearchLemmas.{more_itself, at_one}
use Rattle.lin_fewer.proofs.pending_calls.add_call.Goals as goal

pub returns-then-is_completed-clause-more : goal.returns-then-is_completed-clause-more
returns-then-is_completed-clause-more g c = more_itself (problem_of g.O.SeqObject.after g.O.State.PartialEq.eq g.O.Reply.PartialEq.eq c.args.search.now) c.args.nodes.now.items c.args.index c.requires.nodes

pub returns-then-has-clause-more : goal.returns-then-has-clause-more
returns-then-has-clause-more g c = more_itself (problem_of g.O.SeqObject.after g.O.State.PartialEq.eq g.O.Reply.PartialEq.eq c.args.search.now) c.args.nodes.now.items c.args.index c.requires.nodes

pub returns-then-has_earlier-clause-more : goal.returns-then-has_earlier-clause-more
returns-then-has_earlier-clause-more g c = more_itself (problem_of g.O.SeqObject.after g.O.State.PartialEq.eq g.O.Reply.PartialEq.eq c.args.search.now) c.args.nodes.now.items c.args.index c.requires.nodes

pub returns-in_default-clause-more : goal.returns-in_default-clause-more
returns-in_default-clause-more g c = more_itself (problem_of g.O.SeqObject.after g.O.State.PartialEq.eq g.O.Reply.PartialEq.eq c.args.search.now) c.args.nodes.now.items c.args.index c.requires.nodes

pub returns-then-is_completed-clause-covered : goal.returns-then-is_completed-clause-covered
returns-then-is_completed-clause-covered g c = λ x at l k. absurd (c.requires.none x at (rw c.problem-2.ensures at (c.is_completed.ensures.0 c.if-is_completed.true)) l k)

pub returns-then-has-clause-covered : goal.returns-then-has-clause-covered
returns-then-has-clause-covered g c = at_one c.args.nodes.now.items c.args.index c.at-from.result.now (λ (x : Node g.row.O-State.Denot). IsCovered (problem_of g.O.SeqObject.after g.O.State.PartialEq.eq g.O.Reply.PartialEq.eq c.args.search.now) c.args.nodes.now.items x.base (length c.args.nodes.now.items) x.config c.args.call) (rw c.as_slice.ensures.value at c.at-from.ensures) (covered_none (problem_of g.O.SeqObject.after g.O.State.PartialEq.eq g.O.Reply.PartialEq.eq c.args.search.now) c.args.nodes.now.items c.at-from.result.now.base (length c.args.nodes.now.items) c.at-from.result.now.config c.args.call (lifted_begins (problem_of g.O.SeqObject.after g.O.State.PartialEq.eq g.O.Reply.PartialEq.eq c.args.search.now) c.at-from.result.now.config.lifted c.at-from.result.now.config.state c.args.call (rw c.config.ensures at (sym c.has.ensures ∙ c.if-has.true))))

pub returns-then-has_earlier-clause-covered : goal.returns-then-has_earlier-clause-covered
returns-then-has_earlier-clause-covered g c = (let h = rw c.config-2.ensures at (rw c.lifted.ensures at (c.has_earlier.ensures c.if-has_earlier.true)) in at_one c.args.nodes.now.items c.args.index c.at-from.result.now (λ (x : Node g.row.O-State.Denot). IsCovered (problem_of g.O.SeqObject.after g.O.State.PartialEq.eq g.O.Reply.PartialEq.eq c.args.search.now) c.args.nodes.now.items x.base (length c.args.nodes.now.items) x.config c.args.call) (rw c.as_slice.ensures.value at c.at-from.ensures) (covered_identical (problem_of g.O.SeqObject.after g.O.State.PartialEq.eq g.O.Reply.PartialEq.eq c.args.search.now) c.args.nodes.now.items c.at-from.result.now.base (length c.args.nodes.now.items) c.at-from.result.now.config c.args.call (alike_itself c.lawful.ensures c.args.search.now) h (c.requires.covered h.earlier (h.stands c.at-from.result.now.config.state).less c.at-from.result.now (rw c.as_slice.ensures.value at c.at-from.ensures))))

pub child_of-requires-clause-reachable : goal.child_of-requires-clause-reachable
child_of-requires-clause-reachable g c = rw (c.problem-3.ensures, c.config-4.ensures) (c.requires.nodes c.args.index c.at-from.result.now (rw c.as_slice.ensures.value at c.at-from.ensures)).reachable

pub child_of-requires-clause-minimal : goal.child_of-requires-clause-minimal
child_of-requires-clause-minimal g c = rw (c.problem-3.ensures, c.config-4.ensures) (minimal_by (problem_of g.O.SeqObject.after g.O.State.PartialEq.eq g.O.Reply.PartialEq.eq c.args.search.now) c.at-from.result.now.config.lifted c.args.bound c.args.call (c.requires.bound c.at-from.result.now (rw c.as_slice.ensures.value at c.at-from.ensures)) c.requires.called c.requires.call (rw c.config.ensures at (sym c.has.ensures ∙ c.if-has.false)))

pub returns-in_default-clause-covered : goal.returns-in_default-clause-covered
returns-in_default-clause-covered g c = at_one c.args.nodes.now.items c.args.index c.at-from.result.now (λ (x : Node g.row.O-State.Denot). IsCovered (problem_of g.O.SeqObject.after g.O.State.PartialEq.eq g.O.Reply.PartialEq.eq c.args.search.now) c.args.nodes.now.items x.base (length c.args.nodes.now.items) x.config c.args.call) (rw c.as_slice.ensures.value at c.at-from.ensures) (covered_none (problem_of g.O.SeqObject.after g.O.State.PartialEq.eq g.O.Reply.PartialEq.eq c.args.search.now) c.args.nodes.now.items c.at-from.result.now.base (length c.args.nodes.now.items) c.at-from.result.now.config c.args.call (none_not_next (problem_of g.O.SeqObject.after g.O.State.PartialEq.eq g.O.Reply.PartialEq.eq c.args.search.now) c.at-from.result.now.config c.args.call (c.requires.nodes c.args.index c.at-from.result.now (rw c.as_slice.ensures.value at c.at-from.ensures)).reachable.flags (rw (c.problem-3.ensures, c.config-4.ensures) at (rw c.in_default.is at c.in_ok-child.ensures.none))))

pub is_needless-requires-clause-reachable : goal.is_needless-requires-clause-reachable
is_needless-requires-clause-reachable g c = rw (c.waiting.ensures, c.config-3.ensures) (c.requires.nodes c.args.index c.at-from.result.now (rw c.as_slice.ensures.value at c.at-from.ensures)).reachable

pub is_needless-requires-clause-below : goal.is_needless-requires-clause-below
is_needless-requires-clause-below g c = rw (c.waiting.ensures, c.config-3.ensures, c.first.ensures) (c.requires.nodes c.args.index c.at-from.result.now (rw c.as_slice.ensures.value at c.at-from.ensures)).first.below

pub returns-then-is_needless-clause-more : goal.returns-then-is_needless-clause-more
returns-then-is_needless-clause-more g c = more_itself (problem_of g.O.SeqObject.after g.O.State.PartialEq.eq g.O.Reply.PartialEq.eq c.args.search.now) c.args.nodes.now.items c.args.index c.requires.nodes

pub returns-then-is_needless-clause-covered : goal.returns-then-is_needless-clause-covered
returns-then-is_needless-clause-covered g c = at_one c.args.nodes.now.items c.args.index c.at-from.result.now (λ (x : Node g.row.O-State.Denot). IsCovered (problem_of g.O.SeqObject.after g.O.State.PartialEq.eq g.O.Reply.PartialEq.eq c.args.search.now) c.args.nodes.now.items x.base (length c.args.nodes.now.items) x.config c.args.call) (rw c.as_slice.ensures.value at c.at-from.ensures) (covered_needless (problem_of g.O.SeqObject.after g.O.State.PartialEq.eq g.O.Reply.PartialEq.eq c.args.search.now) c.args.nodes.now.items c.at-from.result.now.base (length c.args.nodes.now.items) c.args.index c.at-from.result.now c.args.call (c.requires.nodes c.args.index c.at-from.result.now (rw c.as_slice.ensures.value at c.at-from.ensures)).base c.requires.index (rw c.as_slice.ensures.value at c.at-from.ensures) (rw (c.waiting.ensures, c.config-3.ensures) at (c.is_needless.ensures c.if-is_needless.true)))
