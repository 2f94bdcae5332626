use Rattle.std.specs.Prelude.{IfOk, IfSome}
use Rattle.std.proofs.Common.{ℕ, ◌<◌, ◌≤◌, subst}
use Rattle.lin_history.specs.Problems.Problem.{problem_of}
use Rattle.lin_prefixes.specs.Prefixes.{HasNoRunOf}
use Rattle.lin_prefixes.proofs.RunLemmas.{no_run_later}
use Rattle.lin_prefixes.proofs.last_call.calls_by_hint.Goals as goal

pub returns-in-NoRun-clause-none : goal.returns-in-NoRun-clause-none
returns-in-NoRun-clause-none g c =
    λ k up within. no_run_later (problem_of g.O.SeqObject.after g.O.State.PartialEq.eq g.O.Reply.PartialEq.eq c.args.problem.now) c.calls-calls.ensures.timed c.unwrap_or-place.result k (λ r w. (rw c.in-NoRun.is at c.in_ok-runs_with.ensures) r w (λ b h. absurd h)) up within

pub returns-clause-none : goal.returns-clause-none
returns-clause-none g c =
    subst (λ (m : ℕ). IfOk c.calls_with_runs-2.result (λ answer. IfSome answer (λ n. (k : ℕ) → n ≤ k → k < m → HasNoRunOf (problem_of g.O.SeqObject.after g.O.State.PartialEq.eq g.O.Reply.PartialEq.eq c.args.problem.now) k))) c.len-3.ensures c.calls_with_runs-2.ensures.none
