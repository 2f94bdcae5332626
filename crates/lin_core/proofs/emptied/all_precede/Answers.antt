use Rattle.std.proofs.Common.{ℕ, List, subst, sym, get_or, [], ◌∷◌, take, take_all, inl, inr}
use Rattle.lin_history.specs.Problems.Lists.{In}
use Rattle.lin_history.specs.Problems.ListLemmas.{in_either}
use Rattle.lin_history.specs.Problems.Precedence.{Before}
use Rattle.lin_history.specs.Problems.AnyProblem.{any_problem}
use Rattle.lin_parts.specs.ListLemmas.{take_one}
use Rattle.lin_core.proofs.emptied.all_precede.Goals as goal

pub loop-c-preserved : goal.loop-c-preserved
loop-c-preserved c = λ k h. elim (in_either k (take c.loop-c.c-index c.args.calls.now) (get_or c.args.calls.now c.loop-c.c-index 0 ∷ []) (subst (λ (x : List ℕ). In k x) (take_one c.args.calls.now c.loop-c.c-index c.loop-c-test.true) h)) [
  | inl early ↦ c.loop-c.invariant k early
  | inr (inl same) ↦ subst (λ (n : ℕ). Before (any_problem c.args.problem.now) n c.args.first) (sym same) (c.precedes.ensures.0 c.if-not-precedes.false)
  | inr (inr none) ↦ absurd none
]

pub returns : goal.returns
returns c = λ yes k h. c.loop-c.invariant k (subst (λ (x : List ℕ). In k x) (sym (take_all c.loop-c.c-index c.args.calls.now c.loop-c-test.false)) h)
