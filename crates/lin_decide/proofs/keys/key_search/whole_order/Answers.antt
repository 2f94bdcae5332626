use Rattle.std.proofs.Common.{List, ℕ, subst, sym, ◌∙◌}
use Rattle.lin_history.specs.Problems.AnyProblem.{any_problem}
use Rattle.lin_history.specs.Problems.Lists.{IsLeast}
use Rattle.lin_history.specs.Problems.Linearizations.{IsLinearization}
use Rattle.lin_decide.specs.Keys.Merging.{AreOrdersOfKeys}
use Rattle.lin_decide.proofs.keys.WholeLemmas.{orders_by_keys, least_by_keys}
use Rattle.lin_decide.proofs.keys.key_search.whole_order.Goals as goal

pub merged-requires : goal.merged-requires
merged-requires c = subst (λ (x : List ℕ). AreOrdersOfKeys x c.args.orders.now) (sym c.as_slice.ensures.value) (orders_by_keys c.args.problem.now c.args.known.now.keys.keys c.args.known.now.numbers.items c.requires.keys c.map_law.ensures c.set_law.ensures c.args.lists.now c.requires.calls c.args.orders.now c.requires.orders)

pub returns : goal.returns
returns c = subst (λ (x : List ℕ). IsLeast (IsLinearization (any_problem c.args.problem.now)) x) (sym (c.new.ensures ∙ c.truncate.ensures.items)) (least_by_keys c.args.problem.now c.args.known.now.keys.keys c.args.known.now.numbers.items c.requires.keys c.map_law.ensures c.set_law.ensures c.args.lists.now c.requires.calls c.args.orders.now c.requires.orders c.calls-calls.ensures.timed c.in_ok-calls.calls.items (rw c.as_slice.ensures.value at c.in_ok-calls.ensures) c.end_of_completed-end.result (rw c.as_slice-2.ensures.value at c.end_of_completed-end.ensures.within) (rw c.as_slice-2.ensures.value at c.end_of_completed-end.ensures.behind) (rw c.as_slice-2.ensures.value at c.end_of_completed-end.ensures.last))
