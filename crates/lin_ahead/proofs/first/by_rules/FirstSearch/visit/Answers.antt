use Rattle.std.proofs.Common.{sym, ◌∙◌, true≢false, refl}
use Rattle.lin_object.specs.StepBacks.{state_before}
use Rattle.lin_search.proofs.PathLemmas.{calls_kept, complete_here, incomplete_here, ok_map}
use Rattle.lin_ahead.proofs.first.FirstLemmas.{lifted_here, first_found}
use Rattle.lin_ahead.proofs.first.by_rules.FirstSearch.visit.Goals as goal

pub go_on-requires-clause-incomplete : goal.go_on-requires-clause-incomplete
go_on-requires-clause-incomplete g c =
    incomplete_here g.O.SeqObject.after g.O.State.PartialEq.eq g.O.Reply.PartialEq.eq c.args.self.now.path.entries.problem c.args.self.now.path.entries.problem refl c.args.self.now.path.entries.lifted _ (lifted_here _ _ _ _ _ _ c.requires.lifted) (λ h. true≢false (sym (c.is_complete.ensures.1 h) ∙ c.if-is_complete.false))

pub returns-then-is_complete-clause-visit : goal.returns-then-is_complete-clause-visit
returns-then-is_complete-clause-visit g c =
    let complete = complete_here g.O.SeqObject.after g.O.State.PartialEq.eq g.O.Reply.PartialEq.eq c.args.self.now.path.entries.problem c.args.self.now.path.entries.problem refl c.args.self.now.path.entries.lifted _ (lifted_here _ _ _ _ _ _ c.requires.lifted) (c.is_complete.ensures.0 c.if-is_complete.true) in
    ok_map _ _ c.success.result (λ visit is. rw (rw (c.call.ensures, ← calls_kept g.O.SeqObject.undone c.args.self.now.path.frames.items (state_before g.O.SeqObject.undone c.args.frame.back c.args.self.now.path.config.state)) at is) (first_found _ _ _ _ _ _ c.requires.lifted complete)) c.success.ensures
