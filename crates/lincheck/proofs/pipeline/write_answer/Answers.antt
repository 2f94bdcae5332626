use Rattle.std.proofs.Common.{◌≡◌, ◌-◌, ◌∙◌, length, take, drop, arith, rules}
use Rattle.std.proofs.lemmas.Grind.{common_steps}
use Rattle.std.proofs.Math.Bool.{or-false}
use Rattle.lincheck.proofs.Bytes.{written_more, written_prefix, on_err}
use Rattle.lincheck.proofs.pipeline.write_answer.Goals as goal

pub returns-in_err-count-clause-prefix : goal.returns-in_err-count-clause-prefix
returns-in_err-count-clause-prefix g c = on_err _ (written_prefix _ _ _ _ _ c.pieces.invariant.written c.in_err-count.ensures.bytes)

pub pieces-preserved : goal.pieces-preserved
pieces-preserved g c =
    let rest : take (length c.pieces.rest.now - c.in_ok-count.count) (drop c.in_ok-count.count c.pieces.rest.now) ≡ drop c.in_ok-count.count c.pieces.rest.now = grind (arith, common_steps) in
    record {
      written = rw rest (written_more _ _ _ _ _ _ c.pieces.invariant.written c.in_ok-count.ensures.bytes);
      failed = c.in_ok-count.ensures.failed ∙ or-false _ ∙ c.pieces.invariant.failed;
    }

pub returns-clause-prefix : goal.returns-clause-prefix
returns-clause-prefix g c = on_err _ (written_prefix _ _ _ _ _ c.pieces.invariant.written c.flush.ensures.bytes)

pub returns-clause-failed : goal.returns-clause-failed
returns-clause-failed g c = search rules depth 3
