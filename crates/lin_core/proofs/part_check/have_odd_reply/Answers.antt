use Rattle.std.proofs.Common.{List, ℕ, subst}
use Rattle.lin_history.specs.Problems.AnyProblem.{any_problem}
use Rattle.lin_core.specs.Replies.{HaveOddReply}
use Rattle.lin_core.proofs.part_check.have_odd_reply.Goals as goal

pub returns : goal.returns
returns c = λ yes. subst (λ (k : List ℕ). HaveOddReply (any_problem c.args.problem.now) c.args.selection.now.event k c.args.part.now.calls) c.as_slice-kept.ensures.value (
  record {
    count = c.has_calls_by.ensures.count yes;
    rises = c.is_rising.ensures c.if-not-is_rising.false;
    each = c.has_calls_by.ensures.each yes;
  },
  c.starts_oddly.ensures c.if-not-starts_oddly.false,
)
