use Rattle.std.proofs.Common.{◌≡◌, Bool, true, false, not, refl}
use Rattle.lin_ahead.proofs.first.FirstLemmas.{begins_skipped}
use Rattle.lin_ahead.proofs.first.by_rules.FirstSearch.may_begin.Goals as goal

pub returns-in_default : goal.returns-in_default
returns-in_default g c = λ told. begins_skipped _ _ _ _ c.requires.reachable.flags (rw c.in_default.is at c.in_ok-state.ensures.none)

not_false : (b : Bool) → not b ≡ false → b ≡ true
not_false true e = refl
not_false false e = absurd (cc)

pub returns : goal.returns
returns g c = λ told. (rw (c.problem-problem.ensures, c.config-config.ensures) at c.in_ok-leads_to_none.ensures) (not_false c.in_ok-leads_to_none.field-0 told)
