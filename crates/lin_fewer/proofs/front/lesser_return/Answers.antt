use Rattle.lin_history.specs.Problems.Problem.{problem_of}
use Rattle.lin_fewer.proofs.FrontLemmas.{lesser_none, lesser_some}
use Rattle.lin_fewer.proofs.front.lesser_return.Goals as goal

pub returns-then-not-is_left : goal.returns-then-not-is_left
returns-then-not-is_left g c = lesser_none (problem_of g.O.SeqObject.after g.O.State.PartialEq.eq g.O.Reply.PartialEq.eq c.args.problem.now) c.args.set.now c.args.call c.args.least (λ h. (let e = c.is_left.ensures.1 h in let f = c.if-not-is_left.true in cc))

pub returns : goal.returns
returns g c = (let h = c.is_left.ensures.0 c.if-not-is_left.false in lesser_some (problem_of g.O.SeqObject.after g.O.State.PartialEq.eq g.O.Reply.PartialEq.eq c.args.problem.now) c.args.set.now c.args.call c.args.least c.return_of.result c.min.result h.0 h.1 c.return_of.ensures c.min.ensures)
