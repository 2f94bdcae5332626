use Rattle.std.proofs.Common.{sym, ◌∙◌, true≢false, refl}
use Rattle.lin_object.specs.StepBacks.{state_before}
use Rattle.lin_search.specs.Path.{frame_of}
use Rattle.lin_search.proofs.PathLemmas.{calls_kept, lifted_here, complete_here, incomplete_here, found_here, ok_map}
use Rattle.lin_search.proofs.depth_first.visit.Goals as goal

pub returns-then-is_complete-clause-step : goal.returns-then-is_complete-clause-step
returns-then-is_complete-clause-step g c =
    ok_map _ _ c.success.result
    (λ step is root from limit left after taken l.
    (let complete = complete_here g.O.SeqObject.after g.O.State.PartialEq.eq g.O.Reply.PartialEq.eq c.args.path.now.entries.problem c.args.path.now.entries.problem refl c.args.path.now.entries.lifted _ (lifted_here _ _ _ _ _ _ _ _ l) (c.is_complete.ensures.0 c.if-is_complete.true) in
    let found = rw (c.call.ensures, ← calls_kept g.O.SeqObject.undone c.args.path.now.frames.items (state_before g.O.SeqObject.undone c.args.frame.back c.args.path.now.config.state)) at is in
    rw found (found_here root limit _ _ left _ _ (frame_of g.O.SeqObject.undone c.args.frame c.args.path.now.config.state) l complete, λ refutation. absurd refutation)))
    c.success.ensures

pub returns-then-is_complete-clause-holds : goal.returns-then-is_complete-clause-holds
returns-then-is_complete-clause-holds g c = ok_map _ _ c.success.result (λ step is off root from limit left k h. rw is (λ refutation. absurd refutation)) c.success.ensures

pub returns-then-is_complete-clause-changes : goal.returns-then-is_complete-clause-changes
returns-then-is_complete-clause-changes g c = g.met.M.Memo.unchanged _

pub go_on-requires-clause-incomplete : goal.go_on-requires-clause-incomplete
go_on-requires-clause-incomplete g c =
    incomplete_here g.O.SeqObject.after g.O.State.PartialEq.eq g.O.Reply.PartialEq.eq c.args.path.now.entries.problem c.args.path.now.entries.problem refl c.args.path.now.entries.lifted _ (lifted_here _ _ _ _ _ _ _ _ c.requires.lifted.4) (λ h. true≢false (sym (c.is_complete.ensures.1 h) ∙ c.if-is_complete.false))
