use Rattle.std.proofs.Common.{◌≡◌, true, drop}
use Rattle.std.specs.List.{list_all}
use Rattle.lin_core.specs.Emptied.{is_even}
use Rattle.lin_core.proofs.emptied.are_even.Given as goal

-- all are even where those that are left are
abbrev pub invariant-loop-item : goal.invariant-loop-item
invariant-loop-item g l = list_all (is_even l.problem.calls l.these) (drop l.item-index l.items) ≡ true → list_all (is_even l.problem.calls l.these) l.items ≡ true
