use Rattle.std.proofs.Common.{length, ◌∷◌}
use Rattle.lin_history.specs.Problems.Problem.{problem_of}
use Rattle.lin_fewer.specs.Nodes.{Node, IsCovered}
use Rattle.lin_fewer.proofs.SearchLemmas.{at_one, more_itself}
use Rattle.lin_fewer.proofs.pending_calls.cover_pending.Goals as goal

pub begins_completed-requires-clause-reachable : goal.begins_completed-requires-clause-reachable
begins_completed-requires-clause-reachable g c = rw (c.waiting.ensures, c.config-config.ensures) (c.requires.nodes c.args.index c.at-node.result.now (rw c.as_slice.ensures.value at c.at-node.ensures)).reachable

pub begins_completed-requires-clause-first : goal.begins_completed-requires-clause-first
begins_completed-requires-clause-first g c = rw (c.waiting.ensures, c.config-config.ensures, c.first.ensures) (c.requires.nodes c.args.index c.at-node.result.now (rw c.as_slice.ensures.value at c.at-node.ensures)).first

pub begins_completed-requires-clause-bound : goal.begins_completed-requires-clause-bound
begins_completed-requires-clause-bound g c = rw (c.waiting.ensures, c.config-config.ensures) (c.requires.bound c.at-node.result.now (rw c.as_slice.ensures.value at c.at-node.ensures))

pub returns-then-begins_completed-clause-more : goal.returns-then-begins_completed-clause-more
returns-then-begins_completed-clause-more g c = more_itself (problem_of g.O.SeqObject.after g.O.State.PartialEq.eq g.O.Reply.PartialEq.eq c.args.search.now) c.args.nodes.now.items c.args.index c.requires.nodes

pub returns-then-begins_completed-clause-covered : goal.returns-then-begins_completed-clause-covered
returns-then-begins_completed-clause-covered g c = λ d. at_one c.args.nodes.now.items c.args.index c.at-node.result.now (λ (x : Node g.row.O-State.Denot). IsCovered (problem_of g.O.SeqObject.after g.O.State.PartialEq.eq g.O.Reply.PartialEq.eq c.args.search.now) c.args.nodes.now.items x.base (length c.args.nodes.now.items) x.config d) (rw c.as_slice.ensures.value at c.at-node.ensures) (λ l k. absurd ((rw (c.waiting.ensures, c.config-config.ensures) at c.begins_completed.ensures c.if-begins_completed.true) (c.requires.none c.at-node.result.now (rw c.as_slice.ensures.value at c.at-node.ensures)) (d ∷ l) k))
