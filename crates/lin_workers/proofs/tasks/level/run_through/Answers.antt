use Rattle.std.proofs.Common.{◌≤◌, length, refl, arith}
use Rattle.std.proofs.lemmas.List.{take_all}
use Rattle.lin_workers.proofs.tasks.level.run_through.Goals as goal

pub returns : goal.returns
returns c =
    let all : length c.args.run.now ≤ c.loop-before.before-index = omega (arith, c.loop-before-test.false) in
    rw (c.new.ensures, c.in_ok-push-2.ensures.items, c.loop-before.invariant, take_all c.loop-before.before-index c.args.run.now all) refl
