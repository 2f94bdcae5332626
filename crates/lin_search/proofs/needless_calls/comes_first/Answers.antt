use Rattle.std.specs.Prelude.{ℕ, Bool, Option, Some, None}
use Rattle.lin_search.specs.NeedlessCalls.{ReturnedAlike, ComesFirst}
use Rattle.lin_search.proofs.needless_calls.comes_first.Goals as goal

first_of_alike : {Reply : Type 0} (same : Reply → Reply → Bool) (x y : Option (ℕ × Reply)) → ReturnedAlike same x y → ComesFirst same x y
first_of_alike same (Some x) (Some y) k = k
first_of_alike same None None k = k
first_of_alike same (Some x) None k = absurd k
first_of_alike same None (Some y) k = absurd k

pub returns-in_default : goal.returns-in_default
returns-in_default g c = λ told. first_of_alike _ _ _ (c.are_returned_alike.ensures told)
