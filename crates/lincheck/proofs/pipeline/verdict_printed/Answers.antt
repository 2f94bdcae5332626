use Rattle.std.proofs.Common.{◌≡◌, Bool, subst}
use Rattle.lin_workers.specs.Options.{bounds_of}
use Rattle.lincheck.specs.Report.{with_stats}
use Rattle.lincheck.proofs.LimitLemmas.{few_objects}
use Rattle.lincheck.proofs.PrintLemmas.{judged_few, stats_told, prints_verdict}
use Rattle.lincheck.proofs.pipeline.verdict_printed.Goals as goal

pub report_explained-requires-clause-verdict : goal.report_explained-requires-clause-verdict
report_explained-requires-clause-verdict g c = ((bounds_of c.args.options.now), c.in-Ok.ensures.verdict)

pub returns : goal.returns
returns g c = λ text means.
    let few = judged_few c.args.history.now (bounds_of c.args.options.now) c.in-Ok.checked.verdict _ c.in-Ok.ensures.verdict (few_objects text c.args.history.now means) in
    let printed = subst (λ (stats : Bool). c.in_ok-printed.printed.items ≡ with_stats stats c.in-Ok.checked.stored c.in_ok-explained.explained.items) c.stats.ensures c.in_ok-printed.ensures in
    rw c.status_of.ensures (prints_verdict _ c.args.options.now _ _ _ _ c.in-Ok.ensures.verdict c.in_ok-explained.ensures (stats_told c.args.options.now.stats c.args.history.now _ c.in-Ok.checked.stored _ _ printed c.in-Ok.ensures.stored few))
