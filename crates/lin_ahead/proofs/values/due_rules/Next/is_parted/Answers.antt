use Rattle.std.proofs.lemmas.Result.{IfOk-weaker}
use Rattle.lin_ahead.proofs.values.due_rules.Next.is_parted.Goals as goal

pub returns : goal.returns
returns c =
    IfOk-weaker c.changes.result _ _
    (λ parted changes known. record {
      writer = c.args.calls.now.writer;
      first = c.args.calls.now.first;
      last = c.args.calls.now.last;
      between = c.args.calls.now.between;
      stands = c.stands_between.ensures c.if-not-stands_between.false;
      found = c.finds_one_state.ensures c.if-not-finds_one_state.false;
      here = rw c.state-here.ensures at (c.in_ok-can_follow.ensures c.if-not-branch.false);
      changes = rw c.state-here.ensures at (changes known);
    })
    c.changes.ensures
