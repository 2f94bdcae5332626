use Rattle.std.proofs.Common.{arith}
use Rattle.lin_ahead.proofs.values.WriterLemmas.{run_one, run_next, run_left}
use Rattle.lin_ahead.proofs.values.writers.run_at.Goals as goal

pub returns-then-place-eq0 : goal.returns-then-place-eq0
returns-then-place-eq0 c = λ r there. run_one c.args.calls.now r.call

pub returns-then-not-goes_with : goal.returns-then-not-goes_with
returns-then-not-goes_with c = λ r there. run_one c.args.calls.now r.call

pub returns-then-before-gt-MOST_OWNERS : goal.returns-then-before-gt-MOST_OWNERS
returns-then-before-gt-MOST_OWNERS c = run_left c.args.calls.now c.args.rows.now c.args.runs.now c.args.place _ _ (let up = c.if-place-eq0.false in omega (arith, up)) c.requires.place c.requires.each c.requires.runs (c.goes_with.ensures c.if-not-goes_with.false)

pub returns-else-before-gt-MOST_OWNERS : goal.returns-else-before-gt-MOST_OWNERS
returns-else-before-gt-MOST_OWNERS c = run_next c.args.calls.now c.args.rows.now c.args.runs.now c.args.place _ _ (let up = c.if-place-eq0.false in omega (arith, up)) c.requires.place c.requires.each c.requires.runs (c.goes_with.ensures c.if-not-goes_with.false)
