use Rattle.std.proofs.Common.{refl, ◌∙◌}
use Rattle.lin_history.specs.Problems.Problem.{problem_of}
use Rattle.lin_workers.proofs.ScoutingLemmas.{none_kept, scouted_start}
use Rattle.lin_workers.proofs.workers.scouts.Walk.go.Goals as goal

pub loop-init : goal.loop-init
loop-init g c = record {
  problem = refl;
  named = refl;
  scouted = scouted_start (problem_of g.O.SeqObject.after g.O.State.PartialEq.eq g.O.Reply.PartialEq.eq c.args.self.now.path.entries.problem) _ _ _ c.enter-at.result (none_kept g.O.SeqObject.undone _ c.args.self.now.path.config.state c.requires.turns) c.requires.lifted c.requires.reachable c.requires.incomplete c.enter-at.ensures.longest (rw (← c.enter-at.ensures.up, c.entries.ensures) at c.enter-at.ensures.candidate);
  memo = g.met.M.Memo.unchanged _;
  stop = g.met.S.Stop.unchanged _;
}

pub loop-preserved : goal.loop-preserved
loop-preserved g c = record {
  problem = c.step.ensures.problem ∙ c.loop.invariant.problem;
  named = c.step.ensures.named ∙ c.loop.invariant.named;
  scouted = rw c.step.ensures.problem (rw c.in-Continue.is at c.in_ok-next.ensures.step);
  memo = g.met.M.Memo.chained _ _ _ c.loop.invariant.memo c.step.ensures.changes;
  stop = g.met.S.Stop.chained _ _ _ c.loop.invariant.stop c.step.ensures.stop;
}
