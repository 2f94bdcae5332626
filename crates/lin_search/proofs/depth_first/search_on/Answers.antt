use Rattle.std.proofs.Common.{refl, ◌∙◌, ap}
use Rattle.lin_search.specs.declared.depth_first.Terms.{Terms}
use Rattle.lin_search.proofs.PathLemmas.{progress_start, holds_start, none_kept}
use Rattle.lin_search.proofs.depth_first.search_on.Goals as goal

pub step-requires-clause-of : goal.step-requires-clause-of
step-requires-clause-of g c =
    λ h.
    let here = rw c.loop-told.invariant.is_for at h in
    rw c.loop-told.invariant.problem (g.met.M.Memo.keeps_problem _ _ c.loop-told.invariant.memo _ (c.requires.of here))

pub loop-told-init : goal.loop-told-init
loop-told-init g c = record {
  problem = refl;
  progress = progress_start _ _ _ _ _ _ (none_kept g.O.SeqObject.undone _ _ c.requires.frames) c.requires.lifted c.requires.reachable c.requires.incomplete c.enter-position.ensures.longest c.enter-position.ensures.candidate;
  memo = g.met.M.Memo.unchanged _;
  holds = λ w off closed. rw (none_kept g.O.SeqObject.undone _ c.args.path.now.config.state c.requires.frames) (holds_start _ _ _ c.enter-position.ensures.candidate closed);
  stop = g.met.S.Stop.unchanged _;
  is_for = refl;
}

pub loop-told-smaller : goal.loop-told-smaller
loop-told-smaller g c = rw c.step.ensures.problem (((rw c.in-Continue.is at c.in_ok-next.ensures.step) c.args.path.now.config c.args.terms.limit c.loop-told.invariant.progress).1)

pub loop-told-preserved : goal.loop-told-preserved
loop-told-preserved g c = record {
  problem = c.step.ensures.problem ∙ c.loop-told.invariant.problem;
  progress = rw c.step.ensures.problem (((rw c.in-Continue.is at c.in_ok-next.ensures.step) c.args.path.now.config c.args.terms.limit c.loop-told.invariant.progress).0);
  memo = g.met.M.Memo.chained _ _ _ c.loop-told.invariant.memo c.step.ensures.changes;
  holds = λ w off closed.
      rw c.step.ensures.problem ((rw c.in-Continue.is at c.in_ok-next.ensures.holds) w (c.passes_over_after-tally.ensures off) c.args.path.now.config c.args.terms.limit c.loop-told.invariant.progress (c.loop-told.invariant.holds (c.step.ensures.whole w) off closed));
  stop = g.met.S.Stop.chained _ _ _ (g.met.S.Stop.chained _ _ _ c.loop-told.invariant.stop c.told_between.ensures.follows) c.step.ensures.stop;
  is_for = ap (λ (t : Terms). t.is_for_problem) c.step.ensures.terms ∙ c.loop-told.invariant.is_for;
}

pub returns-in-Break-clause-answer : goal.returns-in-Break-clause-answer
returns-in-Break-clause-answer g c = rw c.loop-told.invariant.problem at ((rw c.in-Break.is at c.in_ok-next.ensures.step) c.args.path.now.config c.args.terms.limit c.loop-told.invariant.progress).0

pub returns-in-Break-clause-back : goal.returns-in-Break-clause-back
returns-in-Break-clause-back g c = ((rw c.in-Break.is at c.in_ok-next.ensures.step) c.args.path.now.config c.args.terms.limit c.loop-told.invariant.progress).1

pub returns-in-Break-clause-holds : goal.returns-in-Break-clause-holds
returns-in-Break-clause-holds g c =
    λ w off refutation closed.
    rw c.loop-told.invariant.problem at ((rw c.in-Break.is at c.in_ok-next.ensures.holds) w (c.passes_over_after-tally.ensures off) c.args.path.now.config c.args.terms.limit c.loop-told.invariant.progress (c.loop-told.invariant.holds (c.step.ensures.whole w) off closed) refutation)

pub returns-in-Break-clause-memo : goal.returns-in-Break-clause-memo
returns-in-Break-clause-memo g c = g.met.M.Memo.chained _ _ _ c.loop-told.invariant.memo c.step.ensures.changes

pub returns-in-Break-clause-stop : goal.returns-in-Break-clause-stop
returns-in-Break-clause-stop g c = g.met.S.Stop.chained _ _ _ (g.met.S.Stop.chained _ _ _ c.loop-told.invariant.stop c.told_between.ensures.follows) c.step.ensures.stop

pub step-requires-clause-progress : goal.step-requires-clause-progress
step-requires-clause-progress g c = (c.args.path.now.config, c.args.terms.limit, c.loop-told.invariant.progress)

pub returns-in-Break-clause-problem : goal.returns-in-Break-clause-problem
returns-in-Break-clause-problem g c = c.step.ensures.problem ∙ c.loop-told.invariant.problem

pub returns-in_err-next-clause-problem : goal.returns-in_err-next-clause-problem
returns-in_err-next-clause-problem g c = c.step.ensures.problem ∙ c.loop-told.invariant.problem

pub returns-in_err-next-clause-memo : goal.returns-in_err-next-clause-memo
returns-in_err-next-clause-memo g c = g.met.M.Memo.chained _ _ _ c.loop-told.invariant.memo c.step.ensures.changes

pub returns-in_err-next-clause-stop : goal.returns-in_err-next-clause-stop
returns-in_err-next-clause-stop g c = g.met.S.Stop.chained _ _ _ (g.met.S.Stop.chained _ _ _ c.loop-told.invariant.stop c.told_between.ensures.follows) c.step.ensures.stop
