use Rattle.std.proofs.Common.{inr}
use Rattle.lin_prefixes.proofs.QuestionLemmas.{idle_call}
use Rattle.lin_prefixes.proofs.question.stays_out.Goals as goal

pub returns-then-not-is_required-clause-yes : goal.returns-then-not-is_required-clause-yes
returns-then-not-is_required-clause-yes c = λ yes. inr (idle_call c.args.problem.now c.args.call c.call-made.result.now c.call-made.ensures (c.changes_nothing.ensures.law yes))
