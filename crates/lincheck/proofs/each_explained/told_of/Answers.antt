use Rattle.lincheck.proofs.ExplainedLemmas.{name_is, told_behind}
use Rattle.lincheck.proofs.each_explained.told_of.Goals as goal

pub returns : goal.returns
returns g c = (
  c.in_ok-told.told,
  c.in_ok-told.ensures,
  told_behind c.args.history.now c.args.judged.object c.args.lines.now c.object.result.name.now c.calls.result.now c.args.judged.status c.in_ok-told.told _ _ _ (name_is c.args.history.now c.args.judged.object _ c.object.ensures) (rw c.calls.ensures.calls c.in_ok-problem.ensures.calls)
      c.new-out.ensures.bytes c.in_ok-write_status.ensures c.in_ok-write_witness.ensures,
)
