use Rattle.std.proofs.Common.{◌≡◌, sym, ◌∙◌, subst, rules, w64, to_z, of_z}
use Rattle.std.specs.Prelude.{ℤ}
use Rattle.lin_fewer.specs.Adds.{IsTooMuch}
use Rattle.lin_object.specs.declared.state.ObjState.{ObjState}
use Rattle.lin_history.specs.Problems.AnyProblem.{any_problem}
use Rattle.lin_history.specs.Problems.Continuations.{IsCompletion}
use Rattle.lin_fewer.proofs.AddLemmas.{too_much}
use Rattle.lin_fewer.proofs.sums.leaves_no_room.Goals as goal

pub returns : goal.returns
returns c = let same : to_z w64 (of_z w64 c.in-Some.number) ≡ c.in-Some.number = search rules in λ yes l k. too_much c.args.waiting.now c.args.config.now.lifted c.in-Some.number c.args.up c.args.get c.in-Some-got_at.got (rw (c.in-Some-got_at.is, c.problem.ensures) at c.got_at.ensures) (sym c.has.ensures ∙ c.if-has.false) c.in-Some-sum_before.added.sum c.in-Some-sum_before.added.back (rw (c.in-Some-sum_before.is, c.lifted.ensures) at c.sum_before.ensures) (subst (λ (n : ℤ). IsTooMuch c.args.up n c.in-Some-got_at.got.value c.in-Some-sum_before.added.sum c.in-Some-sum_before.added.back) same (c.is_too_much.ensures yes)) l (subst (λ (s : ObjState). IsCompletion (any_problem c.args.waiting.now) c.args.config.now.lifted s l) (rw (c.in-Some.is, c.state.ensures) at c.number_of.ensures.is) k)
