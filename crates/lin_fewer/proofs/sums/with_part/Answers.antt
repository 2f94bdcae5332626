use Rattle.std.proofs.Common.{ℕ, sym, ◌∙◌, ap, ◌+◌}
use Rattle.lin_fewer.proofs.AddLemmas.{add_lifted, add_other, add_more, before_got}
use Rattle.lin_fewer.proofs.sums.with_part.Goals as goal

pub returns-then-has : goal.returns-then-has
returns-then-has c = add_lifted c.args.problem.now c.args.set.now c.args.asked.up c.args.asked.get c.args.call c.args.added.sum c.args.added.back c.requires.added (sym c.has.ensures ∙ c.if-has.true)

pub returns-then-not-returned_before : goal.returns-then-not-returned_before
returns-then-not-returned_before c = add_other c.args.problem.now c.args.set.now c.args.asked.up c.args.asked.get c.args.call c.args.added.sum c.args.added.back c.requires.added c.call-made.result.now (c.args.added.back + c.part_of-other.result) c.call-made.ensures (ap (λ (n : ℕ). c.args.added.back + n) c.part_of-other.ensures.part)

pub returns-then-sum-gt-ENOUGH : goal.returns-then-sum-gt-ENOUGH
returns-then-sum-gt-ENOUGH c = add_other c.args.problem.now c.args.set.now c.args.asked.up c.args.asked.get c.args.call c.args.added.sum c.args.added.back c.requires.added c.call-made.result.now (c.args.added.back + c.part_of-other.result) c.call-made.ensures (ap (λ (n : ℕ). c.args.added.back + n) c.part_of-other.ensures.part)

pub returns : goal.returns
returns c = add_more c.args.problem.now c.args.set.now c.args.asked.up c.args.asked.get c.args.call c.args.added.sum c.args.added.back c.requires.added c.call-made.result.now (c.args.added.sum + c.part_of-part.result) (c.args.added.back + c.part_of-other.result) c.call-made.ensures (sym c.has.ensures ∙ c.if-has.false) (before_got c.args.problem.now c.args.call c.args.asked.get c.args.asked.got c.call-made.result.now c.requires.got c.call-made.ensures (c.returned_before.ensures c.if-not-returned_before.false)) (ap (λ (n : ℕ). c.args.added.sum + n) c.part_of-part.ensures.part) (ap (λ (n : ℕ). c.args.added.back + n) c.part_of-other.ensures.part)
