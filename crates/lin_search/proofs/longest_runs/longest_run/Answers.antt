use Rattle.lin_search.specs.AlikeLemmas.{like_completion}
use Rattle.lin_search.specs.SameLemmas.{alike_itself}
use Rattle.lin_search.proofs.PathLemmas.{ok_map}
use Rattle.lin_search.proofs.RunLemmas.{alike_first}
use Rattle.lin_search.proofs.longest_runs.longest_run.Goals as goal

pub longest_from-requires-clause-none : goal.longest_from-requires-clause-none
longest_from-requires-clause-none g c =
    λ l k. c.requires l (like_completion (alike_itself c.lawful.ensures c.args.problem.now).there _ c.in_ok-config.config.state c.args.problem.now.start l c.in_ok-config.ensures.state (rw c.in_ok-config.ensures.lifted at k))

pub returns-clause-run : goal.returns-clause-run
returns-clause-run g c =
    ok_map _ _ c.longest_from.result (λ order k. alike_first (alike_itself c.lawful.ensures c.args.problem.now) _ c.in_ok-config.config.state c.args.problem.now.start order c.in_ok-config.ensures.state k) (rw c.in_ok-config.ensures.lifted at c.longest_from.ensures.run)
