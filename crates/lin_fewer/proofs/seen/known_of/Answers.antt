use Rattle.lin_history.specs.Problems.Problem.{problem_of}
use Rattle.lin_fewer.proofs.KnowledgeLemmas.{borne_every}
use Rattle.lin_fewer.proofs.seen.known_of.Goals as goal

pub returns-in_default : goal.returns-in_default
returns-in_default g c = borne_every (problem_of g.O.SeqObject.after g.O.State.PartialEq.eq g.O.Reply.PartialEq.eq c.args.search.now) c.args.config.now.lifted c.in_ok-every.every c.args.config.now.state c.requires.reachable.flags (rw (c.lifted.ensures, c.problem.ensures) at (rw c.in_default.is at c.first_left.ensures.none)) c.in_ok-every.ensures

pub returns : goal.returns
returns g c = rw (c.lifted.ensures, c.problem.ensures) at c.in-Some.ensures.some
