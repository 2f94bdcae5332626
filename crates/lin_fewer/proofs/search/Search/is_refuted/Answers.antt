use Rattle.lin_history.specs.Problems.Problem.{problem_of}
use Rattle.lin_fewer.proofs.KnowledgeLemmas.{refuted_by}
use Rattle.lin_fewer.proofs.search.Search.is_refuted.Goals as goal

pub returns-then-is_no_worse : goal.returns-then-is_no_worse
returns-then-is_no_worse g c = rw (← c.self.view_is) (λ yes. refuted_by (problem_of g.O.SeqObject.after g.O.State.PartialEq.eq g.O.Reply.PartialEq.eq c.self.inside.problem.now) c.fewer_law.ensures c.self.inside.refuted c.self.invariant.0.none c.loop.number c.in-Some.known.now c.in-Some.ensures c.args.config.now.lifted c.args.config.now.state (rw (← c.self.view_is) at (c.is_no_worse.ensures c.if-is_no_worse.true)))
