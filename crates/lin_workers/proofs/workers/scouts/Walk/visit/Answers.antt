use Rattle.std.proofs.Common.{sym, ◌∙◌, true≢false, refl}
use Rattle.lin_search.proofs.PathLemmas.{incomplete_here}
use Rattle.lin_workers.proofs.workers.scouts.Walk.visit.Goals as goal

pub go_on-requires-clause-incomplete : goal.go_on-requires-clause-incomplete
go_on-requires-clause-incomplete g c =
    incomplete_here g.O.SeqObject.after g.O.State.PartialEq.eq g.O.Reply.PartialEq.eq c.args.self.now.path.entries.problem c.args.self.now.path.entries.problem refl c.args.self.now.path.entries.lifted _ c.requires.turn.set (λ h. true≢false (sym (c.is_complete.ensures.1 h) ∙ c.if-is_complete.false))
