use Rattle.std.proofs.Common.{sym, ◌∙◌, true≢false}
use Rattle.lin_workers.proofs.workers.scouts.scout.Goals as goal

pub go-requires-clause-of : goal.go-requires-clause-of
go-requires-clause-of g c =
    λ h. rw c.in_ok-new.ensures.problem (g.met.M.Memo.keeps_problem _ _ c.look_at.ensures.changes _ (c.is_for-is_for_problem.ensures h))

pub go-requires-clause-incomplete : goal.go-requires-clause-incomplete
go-requires-clause-incomplete g c =
    rw (c.in_ok-new.ensures.problem, c.in_ok-new.ensures.config, c.in_ok-copy.ensures.lifted) (λ h. true≢false (sym (c.is_complete.ensures.1 h) ∙ c.if-is_complete.false))

pub returns-clause-memo : goal.returns-clause-memo
returns-clause-memo g c = g.met.M.Memo.chained _ _ _ c.look_at.ensures.changes c.go.ensures.memo

pub returns-in_err-new-clause-stop : goal.returns-in_err-new-clause-stop
returns-in_err-new-clause-stop g c = g.met.S.Stop.unchanged _
