use Rattle.std.proofs.Common.{ap, sym, inr}
use Rattle.lin_search.specs.SameLemmas.{alike_itself}
use Rattle.lin_workers.proofs.VerdictLemmas.{least_found, more_runs}
use Rattle.lin_workers.proofs.searches.deciding.verdict_of_task.Goals as goal

pub returns-in_ok-joined-in-Found-clause-verdict : goal.returns-in_ok-joined-in-Found-clause-verdict
returns-in_ok-joined-in-Found-clause-verdict g c =
    least_found _ c.args.task.now c.requires.next _ (sym (ap (λ t. t.path) c.task.view_is)) _ (rw c.in-Found.is at c.requires.answer) _ c.in_ok-joined-in-Found.ensures

pub returns-in-Undecided-clause-verdict : goal.returns-in-Undecided-clause-verdict
returns-in-Undecided-clause-verdict g c =
    inr (more_runs _ (alike_itself c.lawful.ensures c.args.problem.now) c.args.task.now c.requires.next c.args.bounds.now.limit (rw c.in-Undecided.is at c.requires.answer))
