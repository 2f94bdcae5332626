use Rattle.std.proofs.Common.{◌∙◌, ap, sym, subst, arith}
use Rattle.lin_history.specs.Problems.Problem.{problem_of}
use Rattle.lin_table.specs.SharedLemmas.{grown_twice}
use Rattle.lin_workers.specs.Values.{HasBrought}
use Rattle.lin_workers.proofs.RunLemmas.{leads_reachable}
use Rattle.lin_workers.proofs.LevelLemmas.{item_at, task_at}
use Rattle.lin_workers.proofs.ValueLemmas.{brought_same, brought_kept, brought_ended}
use Rattle.lin_workers.proofs.workers.worker.search_tasks.Goals as goal

pub search_task-searched-requires-clause-reachable : goal.search_task-searched-requires-clause-reachable
search_task-searched-requires-clause-reachable g c κs sync =
    let at = item_at c.args.job.now.tasks.now c.in-Some.number c.index-tasks-number.result (let b = c.in-Some.ensures.below in let e = c.args.job.now.places in omega (arith, b, e)) c.index-tasks-number.is in
    leads_reachable _ _ _ _ (task_at _ _ _ _ _ c.requires.cut.1.level.each at).least.0

pub loop-number-preserved-in-Some-searched : goal.loop-number-preserved-in-Some-searched
loop-number-preserved-in-Some-searched g c = record {
  hand = c.search_task-searched.ensures.hand;
  grown = grown_twice _ _ _ c.loop-number.invariant.grown c.search_task-searched.ensures.grown;
  seat = c.keep.ensures.kept.3.board ∙ c.search_task-searched.ensures.seat.board ∙ c.in-Some.ensures.seat;
  brought = brought_kept (problem_of g.O.SeqObject.after g.O.State.PartialEq.eq g.O.Reply.PartialEq.eq c.args.job.now.problem.now) c.args.job.now.tasks.now c.args.job.now.bounds.now.limit c.args.worker.now.seat c.loop-number.worker.seat c.claim.new.seat c.search_task-searched.new.worker.values.items c.in-Some.number c.claim.result c.in-Some.is c.claim.ensures.changed (subst (HasBrought (problem_of g.O.SeqObject.after g.O.State.PartialEq.eq g.O.Reply.PartialEq.eq c.args.job.now.problem.now) c.args.job.now.tasks.now c.args.job.now.bounds.now.limit c.args.worker.now.seat c.loop-number.worker.seat) (ap (λ v. v.items) (sym c.search_task-searched.ensures.values)) c.loop-number.invariant.brought) c.search_task-searched.new.worker.seat c.keep.new.seat c.in-Some-searched.outcome c.index-tasks-number.result c.keep.new.values.items c.search_task-searched.ensures.seat c.in-Some.ensures.other (item_at c.args.job.now.tasks.now c.in-Some.number c.index-tasks-number.result (let b = c.in-Some.ensures.below in let e = c.args.job.now.places in omega (arith, b, e)) c.index-tasks-number.is) c.in-Some-searched.ensures.answer c.keep.ensures.kept;
}

pub loop-number-preserved : goal.loop-number-preserved
loop-number-preserved g c = record {
  hand = c.search_task-searched.ensures.hand;
  grown = grown_twice _ _ _ c.loop-number.invariant.grown c.search_task-searched.ensures.grown;
  seat = c.search_task-searched.ensures.seat.board ∙ c.in-Some.ensures.seat;
  brought = brought_same (problem_of g.O.SeqObject.after g.O.State.PartialEq.eq g.O.Reply.PartialEq.eq c.args.job.now.problem.now) c.args.job.now.tasks.now c.args.job.now.bounds.now.limit c.args.worker.now.seat c.loop-number.worker.seat c.claim.new.seat c.search_task-searched.new.worker.values.items c.in-Some.number c.claim.result c.in-Some.is c.claim.ensures.changed (subst (HasBrought (problem_of g.O.SeqObject.after g.O.State.PartialEq.eq g.O.Reply.PartialEq.eq c.args.job.now.problem.now) c.args.job.now.tasks.now c.args.job.now.bounds.now.limit c.args.worker.now.seat c.loop-number.worker.seat) (ap (λ v. v.items) (sym c.search_task-searched.ensures.values)) c.loop-number.invariant.brought) c.search_task-searched.new.worker.seat c.search_task-searched.ensures.seat;
}

pub returns-clause-brought : goal.returns-clause-brought
returns-clause-brought g c =
    brought_ended (problem_of g.O.SeqObject.after g.O.State.PartialEq.eq g.O.Reply.PartialEq.eq c.args.job.now.problem.now) c.args.job.now.tasks.now c.args.job.now.bounds.now.limit c.args.worker.now.seat c.loop-number.worker.seat c.claim.new.seat c.loop-number.worker.values.items c.claim.result c.in_default.is c.claim.ensures.changed c.loop-number.invariant.brought
