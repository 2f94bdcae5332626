use Rattle.lin_history.specs.Problems.Problem.{problem_of}
use Rattle.lin_search.specs.FirstCallLemmas.{next_within}
use Rattle.lin_search.specs.SameLemmas.{alike_itself}
use Rattle.lin_fewer.proofs.KnowledgeLemmas.{borne_without, borne_instead, borne_has}
use Rattle.lin_fewer.proofs.borne.take_out.Goals as goal

pub returns-then-behind-call : goal.returns-then-behind-call
returns-then-behind-call g c = borne_without (problem_of g.O.SeqObject.after g.O.State.PartialEq.eq g.O.Reply.PartialEq.eq c.args.search.now) c.args.node.now.config c.args.call c.args.borne.now _ c.requires.reachable.flags c.requires.bears c.in_ok-remove.ensures.before c.in_ok-remove.ensures.outside

pub stands_in-requires-clause-call : goal.stands_in-requires-clause-call
stands_in-requires-clause-call g c = rw c.problem-2.ensures (next_within (problem_of g.O.SeqObject.after g.O.State.PartialEq.eq g.O.Reply.PartialEq.eq c.args.search.now) c.args.node.now.config.state c.requires.bears.state c.args.call c.requires.bears.next.step)

pub returns-then-stands_in : goal.returns-then-stands_in
returns-then-stands_in g c = borne_instead (problem_of g.O.SeqObject.after g.O.State.PartialEq.eq g.O.Reply.PartialEq.eq c.args.search.now) (alike_itself c.lawful.ensures c.args.search.now) c.args.node.now.config c.args.call c.last_twin-other.result c.args.borne.now _ c.requires.reachable.flags c.requires.bears (rw (c.problem-2.ensures, c.config-config.ensures) at (c.stands_in.ensures c.if-stands_in.true)) c.in_ok-remove-2.ensures.before c.in_ok-remove-2.ensures.outside

pub remove-requires-2 : goal.remove-requires-2
remove-requires-2 g c = borne_has (problem_of g.O.SeqObject.after g.O.State.PartialEq.eq g.O.Reply.PartialEq.eq c.args.search.now) c.args.node.now.config c.args.call c.args.borne.now c.requires.reachable.flags c.requires.bears

pub returns : goal.returns
returns g c = borne_without (problem_of g.O.SeqObject.after g.O.State.PartialEq.eq g.O.Reply.PartialEq.eq c.args.search.now) c.args.node.now.config c.args.call c.args.borne.now _ c.requires.reachable.flags c.requires.bears c.in_ok-remove-3.ensures.before c.in_ok-remove-3.ensures.outside
