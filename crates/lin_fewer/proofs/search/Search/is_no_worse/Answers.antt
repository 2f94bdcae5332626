use Rattle.std.proofs.Common.{sym, ◌∙◌}
use Rattle.lin_history.specs.Problems.Problem.{problem_of}
use Rattle.lin_fewer.proofs.KnowledgeLemmas.{no_worse_by}
use Rattle.lin_fewer.proofs.search.Search.is_no_worse.Goals as goal

pub returns-then-eq : goal.returns-then-eq
returns-then-eq g c = rw (← c.self.view_is) (λ yes. no_worse_by (problem_of g.O.SeqObject.after g.O.State.PartialEq.eq g.O.Reply.PartialEq.eq c.self.inside.problem.now) c.self.inside.pending c.args.a.now.lifted c.args.b.now.lifted c.args.a.now.state c.args.b.now.state c.self.invariant.0.are_pending (rw (c.lifted.ensures, c.lifted-then-eq.ensures) at (c.is_fewer.ensures yes)) (rw (c.state.ensures, c.state-2.ensures) at (sym c.eq.ensures ∙ c.if-eq.true)))
