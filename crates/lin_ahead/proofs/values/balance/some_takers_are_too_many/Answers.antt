use Rattle.std.proofs.Common.{ℕ, List, sym, subst}
use Rattle.lin_history.specs.Problems.Lists.{In, IsDistinct}
use Rattle.lin_ahead.specs.Values.Balance.{TakesFromMakers}
use Rattle.lin_ahead.proofs.values.balance.some_takers_are_too_many.Goals as goal

pub returns : goal.returns
returns c = λ is. record {
  makers = c.as_slice-makers.result.now;
  takers = c.as_slice.result.now;
  distinct = subst (λ (l : List ℕ). IsDistinct l) (sym c.as_slice.ensures.value) c.in_ok-found.ensures.distinct;
  each = subst (λ (l : List ℕ). (g : ℕ) → In g l → TakesFromMakers c.args.calls.now c.args.rows.now c.as_slice-makers.result.now g) (sym c.as_slice.ensures.value) c.in_ok-found.ensures.each;
  more = c.are_too_many.ensures is;
}
