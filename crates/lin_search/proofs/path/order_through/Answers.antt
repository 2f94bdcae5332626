use Rattle.std.proofs.Common.{◌≤◌, length, refl, arith}
use Rattle.std.proofs.lemmas.List.{take_all}
use Rattle.lin_search.proofs.path.order_through.Goals as goal

pub returns : goal.returns
returns g c =
    let all : length c.args.frames.now ≤ c.loop-frame.frame-index = omega (arith, c.loop-frame-test.false) in
    rw (c.new.ensures, c.in_ok-push-2.ensures.items, c.loop-frame.invariant, take_all c.loop-frame.frame-index c.args.frames.now all) refl
