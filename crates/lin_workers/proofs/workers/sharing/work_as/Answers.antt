use Rattle.std.proofs.Common.{ap, sym, subst}
use Rattle.lin_history.specs.Problems.Problem.{problem_of}
use Rattle.lin_workers.specs.Values.{AreValues}
use Rattle.lin_workers.proofs.ValueLemmas.{values_heard}
use Rattle.lin_workers.proofs.workers.sharing.work_as.Goals as goal

pub returns-clause-values : goal.returns-clause-values
returns-clause-values g c =
    let p = problem_of g.O.SeqObject.after g.O.State.PartialEq.eq g.O.Reply.PartialEq.eq c.args.job.now.problem.now in
    subst (AreValues p c.args.job.now.tasks.now c.args.job.now.bounds.now.limit c.scout_all.new.worker.seat) (ap (λ v. v.items) (sym c.scout_all.ensures.values))
    (values_heard p c.args.job.now.tasks.now c.args.job.now.bounds.now.limit c.search_tasks.new.worker.seat c.scout_all.new.worker.seat c.search_tasks.new.worker.values.items c.scout_all.ensures.seat c.search_tasks.ensures.brought.values)
