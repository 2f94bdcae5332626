use Rattle.std.proofs.Common.{◌∙◌}
use Rattle.lin_history.specs.Problems.Problem.{problem_of}
use Rattle.lin_fewer.specs.Nodes.{Node, NoneBegins}
use Rattle.lin_fewer.proofs.SearchLemmas.{at_one, from_within, by_within, late_none}
use Rattle.lin_fewer.proofs.completed_calls.came_first.Goals as goal

pub at-requires-2 : goal.at-requires-2
at-requires-2 g c = rw c.link-link.ensures.from (from_within (problem_of g.O.SeqObject.after g.O.State.PartialEq.eq g.O.Reply.PartialEq.eq c.args.search.now) c.args.nodes.now c.args.place.base c.args.place.index c.args.place.next c.requires.search c.at.result.now c.at.ensures (λ e. c.if-link-place.false (c.link-link.ensures.base ∙ e)))

pub comes_first-requires-clause-reachable : goal.comes_first-requires-clause-reachable
comes_first-requires-clause-reachable g c = rw (c.problem.ensures, c.config-from.ensures) (c.requires.search.are c.link-link.result.from c.at-2.result.now c.at-2.ensures).reachable

pub comes_first-requires-clause-pending : goal.comes_first-requires-clause-pending
comes_first-requires-clause-pending g c = rw (c.problem.ensures, c.link-link.ensures.by) (by_within (problem_of g.O.SeqObject.after g.O.State.PartialEq.eq g.O.Reply.PartialEq.eq c.args.search.now) c.args.nodes.now c.args.place.base c.args.place.index c.args.place.next c.requires.search c.at.result.now c.at.ensures (λ e. c.if-link-place.false (c.link-link.ensures.base ∙ e)))

pub returns : goal.returns
returns g c = λ yes done. at_one c.args.nodes.now c.args.place.index c.at.result.now (λ (x : Node g.row.O-State.Denot). NoneBegins (problem_of g.O.SeqObject.after g.O.State.PartialEq.eq g.O.Reply.PartialEq.eq c.args.search.now) x.config.lifted x.config.state c.args.call) c.at.ensures (late_none (problem_of g.O.SeqObject.after g.O.State.PartialEq.eq g.O.Reply.PartialEq.eq c.args.search.now) c.args.nodes.now c.args.place.base c.args.place.index c.args.place.next c.requires.search c.at.result.now c.at-2.result.now c.args.call c.at.ensures (λ e. c.if-link-place.false (c.link-link.ensures.base ∙ e)) (rw c.link-link.ensures.from at c.at-2.ensures) (rw (c.problem.ensures, c.config-from.ensures, c.link-link.ensures.by) at (c.comes_first.ensures yes)) done)
