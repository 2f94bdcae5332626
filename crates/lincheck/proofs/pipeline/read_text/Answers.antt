use Rattle.std.proofs.Common.{◌++◌, length, length-append, length-take, take, arith}
use Rattle.std.proofs.KnownBytes.{Consumes-trans}
use Rattle.lincheck.proofs.pipeline.read_text.Goals as goal

-- the bytes of the last read were taken too
pub returns-then-is_err-clause-taken : goal.returns-then-is_err-clause-taken
returns-then-is_err-clause-taken g c =
    let before = c.pieces.text.items in
    let bytes = take c.in-Ok.count c.read.new.into in
    let bound = c.in-Ok.ensures.bound in
    let read = c.in-Ok.ensures.bytes in
    let whole = length-append before bytes in
    let kept = c.read.auto.into in
    let room = c.min-room.ensures in
    let len = c.len-in-pieces.ensures in
    let more = c.pieces-test.true in
    let most = length-take c.min-room.result c.pieces.piece in
    let sized = c.pieces.text.ok in
    let was = c.len.ensures in
    (before ++ bytes, omega arith, Consumes-trans _ _ _ before bytes c.pieces.invariant.consumed read.0)
