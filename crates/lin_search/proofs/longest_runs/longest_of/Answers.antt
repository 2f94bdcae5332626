use Rattle.lin_search.specs.AlikeLemmas.{like_completion, alike_longest}
use Rattle.lin_search.specs.SameLemmas.{alike_itself}
use Rattle.lin_search.proofs.longest_runs.longest_of.Goals as goal

pub unreachable-requires : goal.unreachable-requires
unreachable-requires g c =
    let found = rw (c.in-Found.is, c.in_ok-copy.ensures.lifted) at c.in_ok-ended.ensures.answer in
    c.requires.none _ (like_completion (alike_itself c.lawful.ensures c.args.problem.now).there _ c.in_ok-copy.copy.state c.args.config.now.state _ c.in_ok-copy.ensures.state found.0)

pub returns-clause-longest : goal.returns-clause-longest
returns-clause-longest g c =
    let refuted = rw (c.in-Refuted.is, c.in_ok-copy.ensures.lifted) at c.in_ok-ended.ensures.answer in
    alike_longest (alike_itself c.lawful.ensures c.args.problem.now) _ c.in_ok-copy.copy.state c.args.config.now.state _ _ c.in_ok-copy.ensures.state refuted.1

pub search_from-requires-clause-of : goal.search_from-requires-clause-of
search_from-requires-clause-of g c = λ h. g.met.M.Memo.keeps_problem _ _ c.look_at.ensures.changes _ (c.requires.of h)

pub returns-in_err-ended-clause-memo : goal.returns-in_err-ended-clause-memo
returns-in_err-ended-clause-memo g c = g.met.M.Memo.chained _ _ _ c.look_at.ensures.changes c.search_from.ensures.memo

pub returns-clause-memo : goal.returns-clause-memo
returns-clause-memo g c = g.met.M.Memo.chained _ _ _ c.look_at.ensures.changes c.search_from.ensures.memo

pub returns-in-Some-clause-longest : goal.returns-in-Some-clause-longest
returns-in-Some-clause-longest g c = c.in-Some.ensures.refuted.longest_is
