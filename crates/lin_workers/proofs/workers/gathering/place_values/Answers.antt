use Rattle.std.proofs.Common.{refl, arith}
use Rattle.std.proofs.lemmas.List.Elements.{Contains-append_left, Contains-append_right}
use Rattle.lin_workers.proofs.OutcomeLemmas.{placed_more}
use Rattle.lin_workers.proofs.workers.gathering.place_values.Goals as goal

pub loop-number-preserved : goal.loop-number-preserved
loop-number-preserved c = record {
  placed = placed_more _ _ _ _ (c.in-Some.number, c.in-Some.outcome) c.loop-number.invariant.placed
      (c.loop-number.invariant.left _ (rw c.in-Some.ensures.items (Contains-append_right c.pop.new.self.items _ _ (0, omega arith, refl))))
      c.place_value.ensures;
  left = λ v h. c.loop-number.invariant.left v (rw c.in-Some.ensures.items (Contains-append_left c.pop.new.self.items _ v h));
}
