use Rattle.std.proofs.Common.{refl, sym, ◌∙◌, true≢false}
use Rattle.lin_search.specs.FirstCallLemmas.{none_completes}
use Rattle.lin_search.specs.SameLemmas.{alike_itself}
use Rattle.lin_search.proofs.PathLemmas.{none_kept}
use Rattle.lin_ahead.proofs.first.FirstLemmas.{first_start}
use Rattle.lin_ahead.proofs.first.by_rules.search_by_rules.Goals as goal

pub returns-then-is_complete-clause-told : goal.returns-then-is_complete-clause-told
returns-then-is_complete-clause-told g c =
    rw (c.new-then-is_complete.ensures, c.new.ensures.items) (none_completes _ _ _ (rw c.in_ok-root.ensures.lifted at (c.is_complete.ensures.0 c.if-is_complete.true)), λ m h. tt)

pub go-requires-clause-progress : goal.go-requires-clause-progress
go-requires-clause-progress g c =
    rw (c.in_ok-path.ensures.problem, c.in_ok-path.ensures.config)
    (λ candidate least.
    first_start (alike_itself c.lawful.ensures c.args.problem.now) _ _ _ _ _ candidate (rw c.take.ensures.all c.requires.refuted) refl (none_kept g.O.SeqObject.undone _ _ c.in_ok-path.ensures.frames) c.in_ok-root.ensures.lifted c.in_ok-root.ensures.state c.in_ok-path.ensures.lifted c.in_ok-root.ensures.reachable (λ h. true≢false (sym (c.is_complete.ensures.1 h) ∙ c.if-is_complete.false)) least)

pub go-requires-clause-right : goal.go-requires-clause-right
go-requires-clause-right g c = rw c.in_ok-path.ensures.problem c.requires.rules

pub returns-clause-told : goal.returns-clause-told
returns-clause-told g c = rw c.in_ok-path.ensures.problem at c.in_ok-told.ensures.told

pub returns-clause-nothing : goal.returns-clause-nothing
returns-clause-nothing g c = rw c.in_ok-path.ensures.problem at c.in_ok-told.ensures.nothing

pub returns-in_err-path-clause-stop : goal.returns-in_err-path-clause-stop
returns-in_err-path-clause-stop g c = g.met.S.Stop.unchanged _

pub returns-in_err-identical-clause-stop : goal.returns-in_err-identical-clause-stop
returns-in_err-identical-clause-stop g c = g.met.S.Stop.unchanged _
