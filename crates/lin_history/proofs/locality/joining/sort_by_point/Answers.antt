use Rattle.std.proofs.Common.{rules}
use Rattle.std.proofs.lemmas.List.Sorted.{IsNonDecreasingBy-from_sort_by_key, answers_always}
use Rattle.lin_history.specs.declared.locality.joining.Pointed.{Pointed}
use Rattle.lin_history.proofs.JoinLemmas.PointLemmas.{rise_sorted, tie_sorted}
use Rattle.lin_history.proofs.locality.joining.sort_by_point.Goals as goal

pub returns-clause-rise : goal.returns-clause-rise
returns-clause-rise c = rise_sorted c.sort_by_key.new.self.items (IsNonDecreasingBy-from_sort_by_key (λ (p : Pointed). p.point) _ c.in_ok-sort_by_key.ensures.sorted (λ a r q k. search rules))

pub returns-clause-stable : goal.returns-clause-stable
returns-clause-stable c = tie_sorted c.args.pointed.now.items c.sort_by_key.new.self.items (c.sort_by_key.ensures.stable (λ (p : Pointed). p.point) (answers_always _ _ _ (λ f a r g h. search rules)))
