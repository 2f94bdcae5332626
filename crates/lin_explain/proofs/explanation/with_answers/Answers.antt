use Rattle.lin_explain.proofs.ListLemmas.{in_at}
use Rattle.lin_explain.proofs.explanation.with_answers.Goals as goal

pub next_call-requires : goal.next_call-requires
next_call-requires c = c.requires _ (in_at c.args.calls.now c.loop-call.call-index c.loop-call-test.true)
