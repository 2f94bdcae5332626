use Rattle.std.proofs.Common.{◌≡◌, ℕ, List, length, length-append, sym, ◌∙◌, ap, subst, arith}
use Rattle.lin_ahead.specs.Values.Writers.{AreRuns}
use Rattle.lin_ahead.proofs.values.WriterLemmas.{run_pushed}
use Rattle.lin_ahead.proofs.values.writers.runs_each.Goals as goal

pub loop-place-preserved : goal.loop-place-preserved
loop-place-preserved c =
    let calls = c.args.calls.now in
    let rows = c.args.rows.now in
    let runs = c.loop-place.runs.items in
    let size : length runs ≡ c.loop-place.place = c.loop-place.invariant.each in
    record {
      each = ap (λ (l : List ℕ). length l) c.in_ok-push.ensures.items ∙ simp length-append (omega (arith, size));
      runs = subst (λ (l : List ℕ). AreRuns calls rows l) (sym c.in_ok-push.ensures.items) (run_pushed calls rows runs c.loop-place.place c.run_at-run.result size c.run_at-run.ensures c.loop-place.invariant.runs);
    }
