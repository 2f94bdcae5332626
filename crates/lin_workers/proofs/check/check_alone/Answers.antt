use Rattle.std.proofs.Common.{◌≡◌, Continue, rules}
use Rattle.lin_workers.specs.Bounds.{without_time}
use Rattle.lin_workers.proofs.check.check_alone.Goals as goal

pub told_alone-requires : goal.told_alone-requires
told_alone-requires g c =
    let same : c.verdict_alone.new.memo.problem ≡ c.args.problem.now = search rules in
    let told : c.in-Ok-Continue.field-0 ≡ Continue c.in-Ok-Continue.verdict = search rules in
    (without_time c.args.bounds.now, rw same (c.in-Ok-Continue.ensures.verdict c.in-Ok-Continue.verdict told))

pub returns-in-Ok-Continue-clause-told : goal.returns-in-Ok-Continue-clause-told
returns-in-Ok-Continue-clause-told g c =
    let same : c.verdict_alone.new.memo.problem ≡ c.args.problem.now = search rules in
    rw same at c.told_alone.ensures c.args.bounds.now
