use Rattle.std.proofs.Common.{◌<◌, ℕ, List, length, ap, subst, sym, arith}
use Rattle.lin_history.specs.Problems.Lists.{In}
use Rattle.lin_parts.specs.Parts.{IsRising}
use Rattle.lin_prefixes.proofs.only_replies.copied.Goals as goal

pub part_of-requires : goal.part_of-requires
part_of-requires c = subst (λ (l : List ℕ). IsRising l × ((d : ℕ) → In d l → d < length c.args.problem.now.calls)) (sym c.as_slice.ensures.value) (c.in_ok-all.ensures.rises, λ d h. (let less = c.in_ok-all.ensures.below d h in let same = ap length c.calls-count.ensures.calls in let some = c.if-count-eq0.false in omega (arith, less, same, some)))
