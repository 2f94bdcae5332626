use Rattle.std.proofs.Common.{refl}
use Rattle.lin_ahead.proofs.values.item_value.op_on_item.Goals as goal

pub returns-in-Remove-None : goal.returns-in-Remove-None
returns-in-Remove-None c = rw (c.in-Remove-None.is-0, c.in-Remove-None.is-1) refl
