use Rattle.std.proofs.Common.{◌∙◌}
use Rattle.lin_history.specs.Problems.Problem.{problem_of}
use Rattle.lin_search.specs.AlikeLemmas.{like_continuation}
use Rattle.lin_search.specs.SameLemmas.{alike_itself}
use Rattle.lin_prefixes.proofs.WalkLemmas.{walk_step, walk_end}
use Rattle.lin_prefixes.proofs.candidate.is_run.Goals as goal

pub loop-c-preserved : goal.loop-c-preserved
loop-c-preserved g c =
    let e = c.loop-c.invariant.problem in
    let yes = c.if-not-branch.false in
    record {
      problem = c.follow.ensures.problem ∙ e;
      lifted = rw e at (c.in_ok-follow.ensures.lifted yes);
      reachable = rw e at (c.in_ok-follow.ensures.reachable yes);
      rest = walk_step (problem_of g.O.SeqObject.after g.O.State.PartialEq.eq g.O.Reply.PartialEq.eq c.args.problem.now) c.in_ok-path.path.config.lifted c.in_ok-path.path.config.state c.args.calls.now c.loop-c.c-index c.loop-c.path.config.lifted c.follow.new.path.config.lifted c.loop-c.path.config.state c.follow.new.path.config.state c.loop-c.invariant.reachable c.loop-c-test.true (c.in_ok-follow.ensures.set yes) (rw e at (c.in_ok-follow.ensures.next yes)) c.loop-c.invariant.rest;
    }

pub returns : goal.returns
returns g c =
    λ yes. like_continuation (alike_itself c.lawful.ensures c.args.problem.now).there _ c.in_ok-root.root.state c.args.problem.now.start c.args.calls.now c.in_ok-root.ensures.state
    (rw c.in_ok-root.ensures.lifted at (walk_end (problem_of g.O.SeqObject.after g.O.State.PartialEq.eq g.O.Reply.PartialEq.eq c.args.problem.now) c.in_ok-root.root.lifted c.in_ok-root.root.state c.args.calls.now c.loop-c.c-index c.loop-c.path.config.lifted c.loop-c.path.config.state c.loop-c-test.false (rw c.in_ok-path.ensures.config at c.loop-c.invariant.rest)))
