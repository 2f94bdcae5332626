use Rattle.std.proofs.Common.{◌≡◌, false, sym, ◌∙◌}
use Rattle.lin_history.specs.Problems.Problem.{problem_of}
use Rattle.lin_history.specs.Problems.Continuations.{has}
use Rattle.lin_search.specs.SameLemmas.{alike_itself}
use Rattle.lin_fewer.specs.Nodes.{Node, NoneBegins}
use Rattle.lin_fewer.proofs.FrontLemmas.{lifted_begins}
use Rattle.lin_fewer.proofs.NodeLemmas.{none_identical_completed}
use Rattle.lin_fewer.proofs.SearchLemmas.{at_one}
use Rattle.lin_fewer.proofs.completed_calls.is_to_be_tried.Goals as goal

pub returns-then-has-clause-no : goal.returns-then-has-clause-no
returns-then-has-clause-no g c = λ no done. at_one c.args.nodes.now c.args.place.index c.at.result.now (λ (x : Node g.row.O-State.Denot). NoneBegins (problem_of g.O.SeqObject.after g.O.State.PartialEq.eq g.O.Reply.PartialEq.eq c.args.search.now) x.config.lifted x.config.state c.args.call) c.at.ensures (lifted_begins (problem_of g.O.SeqObject.after g.O.State.PartialEq.eq g.O.Reply.PartialEq.eq c.args.search.now) c.at.result.now.config.lifted c.at.result.now.config.state c.args.call (rw c.config-config.ensures at (sym c.has.ensures ∙ c.if-has.true)))

pub returns-then-has_earlier-clause-no : goal.returns-then-has_earlier-clause-no
returns-then-has_earlier-clause-no g c = λ no done. at_one c.args.nodes.now c.args.place.index c.at.result.now (λ (x : Node g.row.O-State.Denot). NoneBegins (problem_of g.O.SeqObject.after g.O.State.PartialEq.eq g.O.Reply.PartialEq.eq c.args.search.now) x.config.lifted x.config.state c.args.call) c.at.ensures (none_identical_completed (problem_of g.O.SeqObject.after g.O.State.PartialEq.eq g.O.Reply.PartialEq.eq c.args.search.now) (alike_itself c.lawful.ensures c.args.search.now) c.at.result.now.config.lifted c.at.result.now.config.state c.args.call (rw c.config-config.ensures at (rw c.lifted.ensures at (c.has_earlier.ensures c.if-has_earlier.true))) done (c.requires.before c.at.result.now c.at.ensures))

pub returns-then-came_first-clause-no : goal.returns-then-came_first-clause-no
returns-then-came_first-clause-no g c = λ no done. c.came_first.ensures c.if-came_first.true done

pub returns-clause-yes : goal.returns-clause-yes
returns-clause-yes g c = λ yes. at_one c.args.nodes.now c.args.place.index c.at.result.now (λ (x : Node g.row.O-State.Denot). has x.config.lifted c.args.call ≡ false) c.at.ensures (rw c.config-config.ensures at (sym c.has.ensures ∙ c.if-has.false))
