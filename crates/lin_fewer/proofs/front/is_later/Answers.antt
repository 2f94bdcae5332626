use Rattle.std.proofs.Common.{◌≡◌, ◌≤◌, subst}
use Rattle.lin_history.specs.declared.problems.problem.ProblemCall.{ProblemCall}
use Rattle.lin_fewer.proofs.front.is_later.Goals as goal

pub returns-then-made-bound-clause-yes : goal.returns-then-made-bound-clause-yes
returns-then-made-bound-clause-yes g c = λ yes. record { timed = c.calls-timed.ensures.timed; made = c.call-made.result.now; at = c.call-made.ensures; late = c.if-made-bound.true }

pub returns-clause-no : goal.returns-clause-no
returns-clause-no g c = λ no y at. (let e = c.call-made.ensures in let q : c.call-made.result.now ≡ y = cc in subst (λ (z : ProblemCall g.row.O-Op.Denot g.row.O-Reply.Denot). z.called ≤ c.args.bound) q c.if-made-bound.false)
