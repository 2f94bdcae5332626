use Rattle.std.proofs.Common.{rules}
use Rattle.std.specs.Prelude.{IsFalse, IsTrue}
use Rattle.lin_search.specs.SameLemmas.{alike_itself}
use Rattle.lin_workers.proofs.WidthLemmas.{levels_first}
use Rattle.lin_workers.proofs.tasks.cutting.all_levels.Goals as goal

pub loop-init : goal.loop-init
loop-init g c = rw (c.new.ensures.items, c.in_ok-first_level.ensures.2) (levels_first _ (alike_itself c.lawful.ensures c.args.problem.now) c.args.want c.in_ok-first_level.ensures.0 c.in_ok-first_level.ensures.1)

pub returns-then-not-branch : goal.returns-then-not-branch
returns-then-not-branch g c =
    let is_last : IsFalse c.in_ok-make_next.field-0 = search rules in
    let levels = c.in_ok-make_next.ensures.ended is_last c.loop.counter c.loop.invariant in
    (c.loop.counter, levels.0, levels.1)

pub loop-preserved : goal.loop-preserved
loop-preserved g c =
    let is_made : IsTrue c.in_ok-make_next.field-0 = search rules in
    c.in_ok-make_next.ensures.made is_made c.loop.counter c.loop-test.true c.loop.invariant
