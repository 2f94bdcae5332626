use Rattle.std.proofs.Common.{◌≡◌, false, sym, ◌∙◌, true≢false, refl, ap}
use Rattle.std.specs.Prelude.{ℤ}
use Rattle.std.specs.Ordering.{int_eq}
use Rattle.indexmap.specs.IndexMap.{get}
use Rattle.lin_history.specs.Problems.AnyProblem.{any_problem}
use Rattle.lin_ahead.specs.Items.Impossible.{are_several, callers_in}
use Rattle.lin_ahead.proofs.items.ItemsOutLemmas.{again_twice, twice_again}
use Rattle.lin_ahead.proofs.items.TwiceLemmas.{taken_twice_none}
use Rattle.lin_ahead.proofs.items.taken_twice.some_was_taken_twice.Goals as goal

pub returns-then-not-some_took_again-clause-exact :
    goal.returns-then-not-some_took_again-clause-exact
returns-then-not-some_took_again-clause-exact c =
    let nobody : (v : ℤ) → are_several (callers_in (get int_eq c.new.result) v) ≡ false = λ v. rw c.new.ensures.empty refl in (
      λ found. absurd (true≢false (sym found)),
      λ twice.
          let k = twice_again (any_problem c.args.problem.now) _ (callers_in (get int_eq c.new.result)) c.in_ok-takers.ensures (λ v few. nobody v) twice in
          absurd (true≢false (sym (c.some_took_again-2.ensures.1 k) ∙ c.if-not-some_took_again.true)),
    )

pub returns-clause-exact : goal.returns-clause-exact
returns-clause-exact c =
    let p = any_problem c.args.problem.now in
    let added = rw c.calls.ensures.calls at c.in_ok-adders.ensures in
    (λ found. let k = c.some_took_again-3.ensures.0 found in again_twice p _ _ c.in_ok-takers.ensures added k.0 k.1, λ twice. c.some_took_again-3.ensures.1 (twice_again p _ (callers_in (get int_eq c.in_ok-adders.adders)) c.in_ok-takers.ensures (λ v few. ap are_several (added v) ∙ few) twice))

pub returns-clause-none : goal.returns-clause-none
returns-clause-none c = λ found l.
    let k = c.some_took_again-3.ensures.0 found in
    taken_twice_none c.args.problem.now (again_twice (any_problem c.args.problem.now) _ _ c.in_ok-takers.ensures (rw c.calls.ensures.calls at c.in_ok-adders.ensures) k.0 k.1) l
