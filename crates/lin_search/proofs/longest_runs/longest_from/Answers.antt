use Rattle.std.proofs.Common.{sym, ◌∙◌}
use Rattle.lin_history.specs.Problems.Problem.{problem_of}
use Rattle.lin_history.specs.Problems.Continuations.{IsContinuation}
use Rattle.lin_search.specs.LongestRun.{IsFirstLongest}
use Rattle.lin_search.specs.FirstCallLemmas.{none_continues}
use Rattle.lin_search.proofs.ProgressLemmas.{leads_down}
use Rattle.lin_search.proofs.RunLemmas.{none_left, first_next, longest_step, none_after, rest_next, rest_none}
use Rattle.lin_search.proofs.longest_runs.longest_from.Goals as goal

pub loop-call-init : goal.loop-call-init
loop-call-init g c = record {
  reachable = c.requires.reachable;
  none = c.requires.none;
  longest = c.in_ok-longest.ensures.longest;
  rest = λ m k. rw c.new-calls.ensures.items k;
  memo = c.longest_of.ensures.memo;
}

pub follow-requires-clause-next : goal.follow-requires-clause-next
follow-requires-clause-next g c =
    first_next _ _ _ c.loop-call.invariant.reachable.flags _ _ (rw (sym c.first.ensures ∙ c.in-Some.is) at c.loop-call.invariant.longest)

pub loop-call-smaller : goal.loop-call-smaller
loop-call-smaller g c =
    rw c.in_ok-follow.ensures.lifted (leads_down _ _ _ _ _ c.loop-call.invariant.reachable.flags c.in_ok-follow.ensures.next)

pub loop-call-preserved : goal.loop-call-preserved
loop-call-preserved g c = record {
  reachable = c.in_ok-follow.ensures.reachable;
  none = λ l k. none_after _ _ _ c.loop-call.invariant.reachable.flags _ _ c.in_ok-follow.ensures.next c.loop-call.invariant.none l (rw c.in_ok-follow.ensures.lifted at k);
  longest = c.in_ok-longest-2.ensures.longest;
  rest = λ m k. rest_next (IsFirstLongest (IsContinuation (problem_of g.O.SeqObject.after g.O.State.PartialEq.eq g.O.Reply.PartialEq.eq c.args.problem.now) c.args.config.now.lifted c.args.config.now.state)) c.loop-call.calls.items _ m c.in-Some.call c.in_ok-push.ensures.items
      (c.loop-call.invariant.rest _ (longest_step _ _ _ c.loop-call.invariant.reachable.flags _ _ c.in_ok-follow.ensures.next _ (rw (sym c.first.ensures ∙ c.in-Some.is) at c.loop-call.invariant.longest) m (rw c.in_ok-follow.ensures.lifted at k)));
  memo = g.met.M.Memo.chained _ _ _ c.loop-call.invariant.memo c.longest_of-in-Some.ensures.memo;
}

pub longest_of-requires-in-Some-clause-none : goal.longest_of-requires-in-Some-clause-none
longest_of-requires-in-Some-clause-none g c =
    λ l k. none_after _ _ _ c.loop-call.invariant.reachable.flags _ _ c.in_ok-follow.ensures.next c.loop-call.invariant.none l (rw c.in_ok-follow.ensures.lifted at k)

pub longest_of-requires-in-Some-clause-of : goal.longest_of-requires-in-Some-clause-of
longest_of-requires-in-Some-clause-of g c = λ h. g.met.M.Memo.keeps_problem _ _ c.loop-call.invariant.memo _ (c.requires.of h)

pub returns-in_err-longest-2-clause-memo : goal.returns-in_err-longest-2-clause-memo
returns-in_err-longest-2-clause-memo g c = g.met.M.Memo.chained _ _ _ c.loop-call.invariant.memo c.longest_of-in-Some.ensures.memo

pub returns-clause-run : goal.returns-clause-run
returns-clause-run g c =
    rw c.new.ensures (rest_none (IsFirstLongest (IsContinuation (problem_of g.O.SeqObject.after g.O.State.PartialEq.eq g.O.Reply.PartialEq.eq c.args.problem.now) c.args.config.now.lifted c.args.config.now.state)) c.loop-call.calls.items
    (c.loop-call.invariant.rest _ (none_left _ _ (none_continues _ _ _) (rw (sym c.first.ensures ∙ c.in_default.is) at c.loop-call.invariant.longest))))
