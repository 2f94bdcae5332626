use Rattle.std.proofs.Common.{get_or, true, ◌∙◌, ℕ, List, subst, sym, take_all}
use Rattle.lin_history.specs.Problems.Lists.{In}
use Rattle.std.proofs.Math.ListN.{length-set}
use Rattle.lin_parts.specs.ListLemmas.{in_at, flag_set, flag_more, flag_past}
use Rattle.lin_parts.proofs.call_flags.flags_of.Goals as goal
use Rattle.lin_parts.proofs.call_flags.flags_of.Goals.{then-c-n, else-c-n}

pub loop-c-preserved : goal.loop-c-preserved
loop-c-preserved c =
    elim c.if-c-n.branch [
      | then-c-n w ↦ rw w.flags-is (record {
        count = length-set c.loop-c.flags.items (get_or c.args.calls.now c.loop-c.c-index 0) true ∙ c.loop-c.invariant.count;
        set = flag_set c.loop-c.flags.items (get_or c.args.calls.now c.loop-c.c-index 0) c.args.calls.now (in_at c.args.calls.now c.loop-c.c-index c.loop-c-test.true) c.loop-c.invariant.set;
        each = flag_more c.loop-c.flags.items c.args.calls.now c.loop-c.c-index c.args.n c.loop-c.invariant.count c.loop-c-test.true w.if-c-n.true c.loop-c.invariant.each;
      })
      | else-c-n w ↦ rw w.flags-is (record {
        count = c.loop-c.invariant.count;
        set = c.loop-c.invariant.set;
        each = flag_past c.loop-c.flags.items c.args.calls.now c.loop-c.c-index c.args.n c.loop-c-test.true w.if-c-n.false c.loop-c.invariant.each;
      })
    ]

pub returns-clause-each : goal.returns-clause-each
returns-clause-each c = λ k h below. c.loop-c.invariant.each k (subst (λ (x : List ℕ). In k x) (sym (take_all c.loop-c.c-index c.args.calls.now c.loop-c-test.false)) h) below
