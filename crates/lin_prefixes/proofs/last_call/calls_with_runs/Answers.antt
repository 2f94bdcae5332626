use Rattle.std.proofs.Common.{arith}
use Rattle.lin_history.specs.Problems.Problem.{problem_of}
use Rattle.lin_prefixes.proofs.RunLemmas.{no_run_later}
use Rattle.lin_prefixes.proofs.last_call.calls_with_runs.Goals as goal

pub loop-low-init : goal.loop-low-init
loop-low-init g c = record { order = omega arith; within = omega arith; none = λ k up within. absurd (omega (arith, up, within)) }

pub loop-low-preserved-in-NoRun : goal.loop-low-preserved-in-NoRun
loop-low-preserved-in-NoRun g c = record {
  order = c.next_between-asked.ensures.low;
  within = (let a = c.loop-low.invariant.within in let b = c.next_between-asked.ensures.high in omega (arith, a, b));
  none = λ k up within. no_run_later (problem_of g.O.SeqObject.after g.O.State.PartialEq.eq g.O.Reply.PartialEq.eq c.args.problem.now) c.calls-calls.ensures.timed c.next_between-asked.result k (λ r w. (rw c.in-NoRun.is at c.in_ok-runs_with.ensures) r w (λ b h. absurd h)) up (let r = c.requires in omega (arith, within, r));
}
