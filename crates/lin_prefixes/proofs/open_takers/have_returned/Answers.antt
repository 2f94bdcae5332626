use Rattle.std.proofs.Common.{ℕ, get_or, refl, arith}
use Rattle.lin_history.specs.Problems.AnyProblem.{any_problem}
use Rattle.lin_prefixes.specs.Freed.{HasReturned}
use Rattle.lin_prefixes.proofs.ListLemmas.{each_next, each_end}
use Rattle.lin_prefixes.proofs.open_takers.have_returned.Goals as goal

pub loop-taker-preserved : goal.loop-taker-preserved
loop-taker-preserved c = each_next (λ (b : ℕ). HasReturned (any_problem c.args.problem.now) c.args.op.now b) c.args.takers.now c.loop-taker.taker-index (get_or c.args.takers.now c.loop-taker.taker-index 0) c.loop-taker-test.true refl (c.has_returned.ensures c.if-not-has_returned.false) c.loop-taker.invariant

pub returns : goal.returns
returns c = λ yes. each_end (λ (b : ℕ). HasReturned (any_problem c.args.problem.now) c.args.op.now b) c.args.takers.now c.loop-taker.taker-index (let a = c.loop-taker-test.false in omega (arith, a)) c.loop-taker.invariant
