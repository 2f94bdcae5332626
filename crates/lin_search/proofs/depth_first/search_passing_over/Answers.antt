use Rattle.lin_search.specs.AlikeLemmas.{alike_answer}
use Rattle.lin_search.specs.SameLemmas.{alike_itself}
use Rattle.lin_search.proofs.depth_first.search_passing_over.Goals as goal

pub returns-clause-answer : goal.returns-clause-answer
returns-clause-answer g c =
    alike_answer (alike_itself c.lawful.ensures c.args.problem.now) _ c.in_ok-copy.copy.state c.args.config.now.state c.args.limit _ c.in_ok-copy.ensures.state c.in_ok-ended.ended.outcome
    (rw c.in_ok-copy.ensures.lifted at c.in_ok-ended.ensures.answer)
