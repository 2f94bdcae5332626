use Rattle.std.proofs.Common.{◌<◌, ◌∙◌, Some, ap, sym, length, arith}
use Rattle.lin_workers.proofs.RunLemmas.{leads_reachable}
use Rattle.lin_workers.proofs.LevelLemmas.{item_at, task_at}
use Rattle.lin_workers.proofs.OutcomeLemmas.{outcome_at, outcomes_left}
use Rattle.lin_workers.proofs.VerdictLemmas.{none_up_to}
use Rattle.lin_workers.proofs.searches.deciding.verdict_of_tasks.Goals as goal

pub outcome_of-requires-clause-reachable : goal.outcome_of-requires-clause-reachable
outcome_of-requires-clause-reachable g c κs sync =
    let at = item_at c.args.tasks.now c.loop-i.i c.index-tasks-i.result (let m = c.loop-i-test.true in let n = c.loop-i.auto.i-end in omega (arith, m, n)) c.index-tasks-i.is in
    leads_reachable _ _ _ _ (task_at _ _ _ _ _ c.requires.cut.1.level.each at).least.0

pub outcome_of-requires-clause-brought : goal.outcome_of-requires-clause-brought
outcome_of-requires-clause-brought g c κs sync =
    let below : c.loop-i.i < length c.args.tasks.now = (let m = c.loop-i-test.true in let n = c.loop-i.auto.i-end in omega (arith, m, n)) in
    let at = item_at c.args.tasks.now c.loop-i.i c.index-tasks-i.result below c.index-tasks-i.is in
    let there = item_at c.loop-i.outcomes c.loop-i.i c.index-outcomes-i.result (let e = c.loop-i.invariant.outcomes.places in omega (arith, below, e)) c.index-outcomes-i.is in
    outcome_at _ _ _ _ c.loop-i.invariant.outcomes c.loop-i.i _ c.take-brought.result at (there ∙ ap Some (c.index-outcomes-i.is ∙ sym c.take-brought.ensures.value))

pub verdict_of_task-requires-clause-next : goal.verdict_of_task-requires-clause-next
verdict_of_task-requires-clause-next g c κs sync = record {
  level = c.requires.cut.0;
  tasks = c.args.tasks.now;
  index = c.loop-i.i;
  cut = c.requires.cut.1;
  decide = c.requires.decides;
  at = item_at c.args.tasks.now c.loop-i.i c.index-tasks-i.result (let m = c.loop-i-test.true in let n = c.loop-i.auto.i-end in omega (arith, m, n)) c.index-tasks-i.is;
  none = c.loop-i.invariant.none;
}

pub loop-i-preserved : goal.loop-i-preserved
loop-i-preserved g c =
    let at = item_at c.args.tasks.now c.loop-i.i c.index-tasks-i.result (let m = c.loop-i-test.true in let n = c.loop-i.auto.i-end in omega (arith, m, n)) c.index-tasks-i.is in record {
      outcomes = outcomes_left _ _ _ _ c.loop-i.invariant.outcomes c.loop-i.i c.take-brought.new.self c.take-brought.ensures.after;
      none = none_up_to _ c.args.tasks.now c.loop-i.i c.index-tasks-i.result at c.loop-i.invariant.none (rw c.in_default.is at c.in_ok-verdict.ensures.refuted);
      memo = g.met.M.Memo.chained _ _ _ c.loop-i.invariant.memo c.outcome_of.ensures.memo;
    }

pub longest_run-requires : goal.longest_run-requires
longest_run-requires g c =
    c.requires.decides.none (λ j t h e. c.loop-i.invariant.none j t (let m = c.loop-i-test.false in let n = c.loop-i.auto.i-end in omega (arith, h, m, n)) e)

pub returns-clause-verdict : goal.returns-clause-verdict
returns-clause-verdict g c = (
  c.requires.decides.none (λ j t h e. c.loop-i.invariant.none j t (let m = c.loop-i-test.false in let n = c.loop-i.auto.i-end in omega (arith, h, m, n)) e),
  c.in_ok-longest_run.ensures.run,
)

pub returns-clause-memo : goal.returns-clause-memo
returns-clause-memo g c = g.met.M.Memo.chained _ _ _ c.loop-i.invariant.memo c.longest_run.ensures.memo
