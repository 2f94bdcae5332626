use Rattle.std.proofs.Common.{◌≡◌, Some, length, refl}
use Rattle.std.specs.Prelude.{slice_get}
use Rattle.std.proofs.lemmas.Option.{slice_get_read}
use Rattle.lin_ahead.proofs.queues.needs.needs.Goals as goal

pub returns-then-by-taken : goal.returns-then-by-taken
returns-then-by-taken c =
    let there : slice_get c.args.ahead.now.needs.by c.args.other ≡ Some c.in_ok-by.field-0.now = rw c.by.ensures at (slice_get_read c.by.result.now (length c.by.result.now) c.args.other c.in_ok-by.field-0.now refl c.in_ok-by.ensures.lookup.3.0 c.in_ok-by.ensures.lookup.1) in
    let here : slice_get c.args.ahead.now.taken.items c.args.call ≡ Some c.in_ok-taken.field-0.now = rw c.deref.ensures.value at (slice_get_read c.deref.result.now (length c.deref.result.now) c.args.call c.in_ok-taken.field-0.now refl c.in_ok-taken.ensures.lookup.3.0 c.in_ok-taken.ensures.lookup.1) in
    λ later. c.requires.ahead.behind c.args.config.now.lifted c.args.other c.args.call c.in_ok-by.field-0.now c.in_ok-taken.field-0.now there here c.if-by-taken.true (rw c.as_slice.ensures.value at (c.others_called_after.ensures later))
