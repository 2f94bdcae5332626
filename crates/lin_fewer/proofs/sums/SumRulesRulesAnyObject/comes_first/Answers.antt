use Rattle.lin_fewer.proofs.AddLemmas.{comes_first}
use Rattle.lin_fewer.proofs.sums.SumRulesRulesAnyObject.comes_first.Goals as goal

pub returns : goal.returns
returns c = λ yes. comes_first c.args.problem.now c.fewer_law.ensures (λ s. c.lawful.ensures.states.refl s) c.args.self.now.up c.args.config.now c.args.pending c.args.completed c.in-Some._number (rw (c.in-Some.is, c.state.ensures) at c.number_of.ensures.is) c.requires.reachable.flags (rw c.in-Some.is at c.number_of.ensures.range) (λ done. let t = c.is_completed.ensures.1 done in let f = c.if-is_completed.false in absurd (cc)) (c.may_come_late.ensures c.if-not-may_come_late.false) (c.is_add.ensures yes)
