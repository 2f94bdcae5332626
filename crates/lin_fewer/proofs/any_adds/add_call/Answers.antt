use Rattle.std.proofs.Common.{Option, subst, refl}
use Rattle.std.specs.Prelude.{ℕ, Bool, List}
use Rattle.lin_history.specs.Problems.AnyProblem.{any_problem}
use Rattle.lin_fewer.specs.AnyAdds.{GrowsTo, HasNoMore}
use Rattle.lin_fewer.proofs.AnyAddsLemmas.{beginning_with, taken_there}
use Rattle.lin_fewer.proofs.any_adds.add_call.Goals as goal

pub put-requires-clause-is : goal.put-requires-clause-is
put-requires-clause-is c = beginning_with c.args.counted.now.problem.now c.args.from.now (record { lifted = c.in_ok-lifted.lifted; grown = c.in-Some.grown; first = c.args.from.now.first }) c.args.call c.requires.from c.requires.call c.in_ok-lifted.ensures refl

pub returns-clause-taken : goal.returns-clause-taken
returns-clause-taken c = taken_there c.args.counted.now.problem.now c.args.counted.now.start c.args.from.now c.put.new.layer.items c.args.call c.in-Some.grown (subst (λ (o : Option ℕ). GrowsTo (any_problem c.args.counted.now.problem.now) c.args.counted.now.start c.args.call c.args.from.now.grown o) c.in-Some.is c.grown_after.ensures) (subst (λ (s : List Bool). HasNoMore c.put.new.layer.items s c.in-Some.grown) c.in_ok-lifted.ensures c.in_ok-put.ensures.there)
