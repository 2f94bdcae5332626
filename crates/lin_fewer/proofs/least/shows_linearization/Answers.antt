use Rattle.lin_history.specs.Problems.Problem.{problem_of}
use Rattle.lin_history.specs.Problems.Continuations.{no_calls}
use Rattle.lin_fewer.proofs.LeastLemmas.{some_same}
use Rattle.lin_fewer.proofs.least.shows_linearization.Goals as goal

pub returns-clause-some : goal.returns-clause-some
returns-clause-some g c = λ yes. some_same (problem_of g.O.SeqObject.after g.O.State.PartialEq.eq g.O.Reply.PartialEq.eq c.args.problem.now) c.lawful.ensures.states c.fewer_law.ensures c.in_ok-root.root.lifted c.in_ok-root.root.state (no_calls (problem_of g.O.SeqObject.after g.O.State.PartialEq.eq g.O.Reply.PartialEq.eq c.args.problem.now)) c.args.problem.now.start c.in_ok-root.ensures.lifted c.in_ok-root.ensures.state (rw (c.is_completion.ensures.0 yes, c.in_ok-search.ensures) at c.in_ok-verdict.ensures.verdict)
