use Rattle.lin_history.specs.Problems.Problem.{problem_of}
use Rattle.lin_search.specs.SameLemmas.{alike_itself}
use Rattle.lin_fewer.proofs.KnowledgeLemmas.{borne_by}
use Rattle.lin_fewer.proofs.search.Search.known_borne.Goals as goal

pub returns-then-is_no_worse : goal.returns-then-is_no_worse
returns-then-is_no_worse g c = rw (c.in_ok-borne.ensures, c.lifted.ensures, ← c.self.view_is) (borne_by (problem_of g.O.SeqObject.after g.O.State.PartialEq.eq g.O.Reply.PartialEq.eq c.self.inside.problem.now) (alike_itself c.lawful.ensures c.self.inside.problem.now) c.self.inside.good c.self.invariant.0.complete c.loop.number c.in-Some.known.now c.in-Some.ensures c.args.config.now.lifted c.args.config.now.state (rw (← c.self.view_is) at (c.is_no_worse.ensures c.if-is_no_worse.true)))
