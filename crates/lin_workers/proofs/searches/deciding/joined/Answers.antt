use Rattle.std.proofs.Common.{refl}
use Rattle.lin_workers.proofs.searches.deciding.joined.Goals as goal

pub returns : goal.returns
returns c = rw (c.new.ensures, c.in_ok-extend_from_slice-2.ensures.items, c.in_ok-extend_from_slice.ensures.items, c.new-calls.ensures.items, c.calls.ensures, c.calls-2.ensures) refl
