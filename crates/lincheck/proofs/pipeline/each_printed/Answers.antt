use Rattle.std.proofs.Common.{◌≡◌, Bool, subst}
use Rattle.lincheck.specs.Report.{with_stats}
use Rattle.lincheck.proofs.LimitLemmas.{few_objects}
use Rattle.lincheck.proofs.PrintLemmas.{stats_told}
use Rattle.lincheck.proofs.pipeline.each_printed.Goals as goal

pub returns : goal.returns
returns g c = λ text means.
    let few = few_objects text c.args.history.now means in
    let printed = subst (λ (stats : Bool). c.in_ok-printed.printed.items ≡ with_stats stats c.in-Ok.checked.stored c.in_ok-told.told.items) c.stats.ensures c.in_ok-printed.ensures in
    let stats = stats_told c.args.options.now.stats c.args.history.now _ c.in-Ok.checked.stored _ _ printed c.in-Ok.ensures.stored few in
    record {
      statuses = c.in-Ok.checked.statuses.items;
      are = c.in-Ok.ensures.statuses;
      together = rw c.as_slice-statuses.ensures.value at c.status_of_all.ensures;
      lines = c.in_ok-told.told.items;
      tell = rw c.as_slice-statuses.ensures.value at c.in_ok-told.ensures;
      print = stats;
    }
