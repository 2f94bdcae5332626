use Rattle.std.proofs.Common.{rules}
use Rattle.std.proofs.lemmas.List.Sorted.{IsNonDecreasingBy-from_sort_by_key}
use Rattle.lin_history.specs.Problems.AnyProblem.{any_problem}
use Rattle.lin_ahead.specs.declared.mutexes.sections.Section.{Section}
use Rattle.lin_ahead.proofs.mutexes.RowLemmas.{in_order, sections_moved}
use Rattle.lin_ahead.proofs.mutexes.sections.sections_in_order.Goals as goal

pub returns-clause-sections : goal.returns-clause-sections
returns-clause-sections c = sections_moved (any_problem c.args.problem.now) c.in_ok-sections.sections.items c.sort_by_key.new.self.items c.in_ok-sort_by_key.ensures.permutation c.in_ok-sections.ensures

pub returns-clause-order : goal.returns-clause-order
returns-clause-order c = in_order c.sort_by_key.new.self.items (IsNonDecreasingBy-from_sort_by_key (λ (s : Section). s.from) c.sort_by_key.new.self.items c.in_ok-sort_by_key.ensures.sorted (λ a r q k. search rules))
