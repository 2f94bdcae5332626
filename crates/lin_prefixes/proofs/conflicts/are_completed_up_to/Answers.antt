use Rattle.std.proofs.Common.{ℕ, ◌≤◌, arith}
use Rattle.lin_history.specs.Problems.Precedence.{IsCompleted}
use Rattle.lin_history.specs.Problems.Problem.{problem_of}
use Rattle.lin_prefixes.proofs.ListLemmas.{each_end}
use Rattle.lin_prefixes.proofs.conflicts.are_completed_up_to.Goals as goal

pub returns : goal.returns
returns g c = λ yes. each_end (λ (b : ℕ). (b ≤ c.args.call) × IsCompleted (problem_of g.O.SeqObject.after g.O.State.PartialEq.eq g.O.Reply.PartialEq.eq c.args.problem.now) b) c.args.calls.now c.loop-c.c-index (let a = c.loop-c-test.false in omega (arith, a)) c.loop-c.invariant
