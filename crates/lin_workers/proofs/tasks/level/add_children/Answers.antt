use Rattle.std.proofs.Common.{◌+◌, refl}
use Rattle.lin_history.specs.Problems.Problem.{problem_of}
use Rattle.lin_workers.proofs.RunLemmas.{leads_reachable}
use Rattle.lin_workers.proofs.LevelLemmas.{set_of_task, filled_wider, filled_next, none_between, none_from}
use Rattle.lin_workers.proofs.tasks.level.add_children.Goals as goal

pub loop-candidate-init : goal.loop-candidate-init
loop-candidate-init g c =
    let set = set_of_task (problem_of g.O.SeqObject.after g.O.State.PartialEq.eq g.O.Reply.PartialEq.eq c.args.problem.now) c.requires.task.0 c.args.parent.now _ c.calls-run.result.now c.requires.task.1 c.parent.view_is c.calls-run.ensures in
    record {
      bound = 0;
      least = rw set at (rw (c.lift_run.ensures, c.requires.whole) at c.first_minimal-candidate.ensures);
      filled = λ k i parents level at f. f;
    }

pub add_child-requires-clause-reachable : goal.add_child-requires-clause-reachable
add_child-requires-clause-reachable g c = leads_reachable _ _ _ _ c.requires.task.1.least.0

pub add_child-requires-clause-call : goal.add_child-requires-clause-call
add_child-requires-clause-call g c = (rw c.in-Some.is at c.loop-candidate.invariant.least).0.within

pub loop-candidate-preserved : goal.loop-candidate-preserved
loop-candidate-preserved g c =
    let set = set_of_task (problem_of g.O.SeqObject.after g.O.State.PartialEq.eq g.O.Reply.PartialEq.eq c.args.problem.now) c.requires.task.0 c.args.parent.now _ c.calls-run.result.now c.requires.task.1 c.parent.view_is c.calls-run.ensures in
    let least = rw c.in-Some.is at c.loop-candidate.invariant.least in
    record {
      bound = c.in-Some.call + 1;
      least = rw set at (rw (c.lift_run.ensures, c.requires.whole) at c.next_minimal-candidate.ensures);
      filled = λ k i parents level at f. c.in_ok-add_child.ensures.filled k i parents level at (filled_wider _ k parents i c.loop-candidate.invariant.bound c.in-Some.call _ c.args.parent.now at least.1 (λ d t h l n. none_between _ _ c.args.parent.now.config.state c.loop-candidate.invariant.bound c.in-Some.call least d t h l n) (c.loop-candidate.invariant.filled k i parents level at f));
    }

pub returns : goal.returns
returns g c = record {
  whole = rw (c.unlift_run.ensures, c.lift_run.ensures, c.requires.whole) refl;
  filled = λ k i parents level at f. filled_next _ k parents i c.loop-candidate.invariant.bound _ c.args.parent.now at (λ d t h n. none_from _ _ c.args.parent.now.config.state c.loop-candidate.invariant.bound (rw c.in_default.is at c.loop-candidate.invariant.least) d t h n) (c.loop-candidate.invariant.filled k i parents level at f);
}
