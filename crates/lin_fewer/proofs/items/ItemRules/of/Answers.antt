use Rattle.std.proofs.Common.{arith}
use Rattle.std.specs.Ordering.{int_eq}
use Rattle.indexmap.specs.IndexMap.{get}
use Rattle.lin_fewer.proofs.ItemLemmas.{ends_none, ends_all}
use Rattle.lin_fewer.proofs.items.ItemRules.of.Goals as goal

pub loop-call-init : goal.loop-call-init
loop-call-init c = ends_none c.args.problem.now (get int_eq c.new-ends.result)

pub invariant_of-result : goal.invariant_of-result
invariant_of-result c = ends_all c.args.problem.now (get int_eq c.loop-call.ends) c.loop-call.call c.loop-call.invariant (let e = c.loop-call-test.false in let n = c.len-call-end.ensures in omega (arith, e, n))
