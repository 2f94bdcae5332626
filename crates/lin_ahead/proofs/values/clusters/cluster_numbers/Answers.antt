use Rattle.std.proofs.Common.{rules, ℕ, refl, arith, subst}
use Rattle.lin_ahead.specs.Values.Clusters.{AreNumbersTo}
use Rattle.lin_ahead.proofs.values.NumberLemmas.{no_numbers}
use Rattle.lin_ahead.proofs.values.clusters.cluster_numbers.Goals as goal

pub loop-call-init : goal.loop-call-init
loop-call-init c = no_numbers c.args.calls.now c.args.owners.now c.in_ok-numbers.numbers.items _ refl refl (c.in_ok-numbers.ensures.items_if_clones_equal (search rules))

pub loop-call-preserved : goal.loop-call-preserved
loop-call-preserved c = c.add_to_cluster.ensures c.loop-call.invariant

pub returns : goal.returns
returns c = subst (λ (n : ℕ). AreNumbersTo c.args.calls.now c.args.owners.now n c.loop-call.numbers.items) (let a = c.loop-call-test.false in let b = c.loop-call.auto.call-end in omega (arith, a, b)) c.loop-call.invariant
