use Rattle.lin_core.proofs.SuffixCoreLemmas.{refuted_from}
use Rattle.lin_core.proofs.windows.is_refuted_from.Goals as goal

pub returns : goal.returns
returns g c = λ yes. refuted_from c.args.problem.now c.in-Some.part c.args.window.now.from c.args.window.now.event c.args.window.now.key c.args.window.now.values.items c.args.window.now.calls.items c.args.start.now
    (c.is_part_from.ensures.start c.if-not-is_part_from.false) (c.is_part_from.ensures.enough c.if-not-is_part_from.false) (rw (c.is_refuted.ensures.0 yes) at c.in_ok-decision.ensures)
