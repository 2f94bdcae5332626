use Rattle.std.proofs.Common.{◌∙◌, [], sym, arith}
use Rattle.clap.specs.Words.{found_of, rows_of}
use Rattle.lin_workers.specs.declared.options.TheConstants.{MAX_WORKERS, MAX_SHARDS, MAX_LIMIT, MAX_SECONDS}
use Rattle.lincheck.specs.CommandLine.{flag}
use Rattle.lincheck.proofs.CommandLineLemmas.{asked, first_made, timed_whole, AreRead}
use Rattle.lincheck.proofs.request.options_asked.Goals as goal

pub unreachable-requires : goal.unreachable-requires
unreachable-requires c =
    let rows = rows_of (found_of c.args.matches.now) in
    let read : AreRead rows c.number_asked.result c.number_asked-2.result c.number_asked-limit.result c.number_asked-seconds.result c.unwrap_or-workers.result c.unwrap_or-shards.result = record {
      w_is = c.number_asked.ensures MAX_WORKERS (c.requires 0 (flag []) (omega arith));
      s_is = c.number_asked-2.ensures MAX_SHARDS (c.requires 1 (flag []) (omega arith));
      l_is = c.number_asked-limit.ensures MAX_LIMIT (c.requires 2 (flag []) (omega arith));
      d_is = c.number_asked-seconds.ensures MAX_SECONDS (c.requires 6 (flag []) (omega arith));
      workers_is = c.unwrap_or-workers.ensures;
      shards_is = c.unwrap_or-shards.ensures;
    } in
    c.in_default.not-Ok _ (c.new.ensures ∙ first_made rows _ _ _ _ _ _ c.is_asked.result read)

pub unreachable-requires-in_default-with_seconds : goal.unreachable-requires-in_default-with_seconds
unreachable-requires-in_default-with_seconds c =
    c.in_default-with_seconds.not-Ok _ (c.with_seconds.ensures ∙ timed_whole _ c.in-Ok.options (c.number_asked-seconds.ensures MAX_SECONDS (c.requires 6 (flag []) (omega arith))).within)

pub returns : goal.returns
returns c =
    let rows = rows_of (found_of c.args.matches.now) in
    let read : AreRead rows c.number_asked.result c.number_asked-2.result c.number_asked-limit.result c.number_asked-seconds.result c.unwrap_or-workers.result c.unwrap_or-shards.result = record {
      w_is = c.number_asked.ensures MAX_WORKERS (c.requires 0 (flag []) (omega arith));
      s_is = c.number_asked-2.ensures MAX_SHARDS (c.requires 1 (flag []) (omega arith));
      l_is = c.number_asked-limit.ensures MAX_LIMIT (c.requires 2 (flag []) (omega arith));
      d_is = c.number_asked-seconds.ensures MAX_SECONDS (c.requires 6 (flag []) (omega arith));
      workers_is = c.unwrap_or-workers.ensures;
      shards_is = c.unwrap_or-shards.ensures;
    } in
    asked rows _ _ _ _ _ _ c.is_asked.result c.is_asked-2.result c.in-Ok.options c.in-Ok-with_seconds.timed c.with_progress.result read c.is_asked.ensures c.is_asked-2.ensures
    (sym c.new.ensures ∙ c.in-Ok.is) (sym c.with_seconds.ensures ∙ c.in-Ok-with_seconds.is) c.with_progress.ensures
