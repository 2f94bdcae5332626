use Rattle.std.proofs.Common.{ℕ, refl, arith}
use Rattle.std.proofs.lemmas.Option.{slice_get_read, slice_get_within}
use Rattle.lin_history.specs.Problems.AnyProblem.{any_problem}
use Rattle.lin_search.specs.NextCall.{HasEveryCompleted}
use Rattle.lin_fewer.specs.declared.any_adds.Beginning.{Beginning}
use Rattle.lin_fewer.specs.AnyAdds.{IsTaken}
use Rattle.lin_fewer.proofs.ReadLemmas.{each_more}
use Rattle.lin_fewer.proofs.NodeLemmas.{incomplete}
use Rattle.lin_fewer.proofs.AnyAddsLemmas.{taken_still}
use Rattle.lin_fewer.proofs.any_adds.next_layer.Goals as goal

pub loop-i-preserved : goal.loop-i-preserved
loop-i-preserved c = (
  c.in_ok-add_calls.ensures.layer,
  each_more (λ (b : Beginning). (HasEveryCompleted (any_problem c.args.counted.now.problem.now) b.lifted → ⊥) × ((d : ℕ) → IsTaken (any_problem c.args.counted.now.problem.now) c.args.counted.now.start b c.add_calls.new.layer.items d)) c.args.layer.now c.loop-i.i c.index-layer-i.result
      (slice_get_read c.args.layer.now _ c.loop-i.i c.index-layer-i.result refl c.loop-i-test.true c.index-layer-i.is)
      (λ k b less at. let h = c.loop-i.invariant.1 k b less at in (h.0, λ d. taken_still c.args.counted.now.problem.now c.args.counted.now.start b c.loop-i.later.items c.add_calls.new.layer.items d c.in_ok-add_calls.ensures.more (h.1 d)))
      (incomplete (any_problem c.args.counted.now.problem.now) c.index-layer-i.result.lifted c.in-Some.first c.in-Some.ensures.some, c.in_ok-add_calls.ensures.taken),
)

pub returns-clause-leads : goal.returns-clause-leads
returns-clause-leads c = λ i b at. c.loop-i.invariant.1 i b (let w = slice_get_within c.args.layer.now i b at in let e = c.loop-i-test.false in omega (arith, w, e)) at
