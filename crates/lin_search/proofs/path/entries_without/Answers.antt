use Rattle.std.proofs.Common.{sym, ◌∙◌, arith}
use Rattle.lin_history.specs.Problems.Problem.{problem_of}
use Rattle.lin_search.proofs.LiftedSetLemmas.{filled_skip, filled_lifted, filled_all}
use Rattle.lin_search.proofs.path.entries_without.Goals as goal
use Rattle.lin_search.proofs.path.entries_without.Goals.{then-has, else-has}

pub loop-call-preserved : goal.loop-call-preserved
loop-call-preserved g c = elim c.if-has.branch [
  | then-has w ↦ record {
    problem = rw (w.entries-is, w.lift.ensures) c.loop-call.invariant.problem;
    filled = rw w.entries-is (filled_lifted (problem_of g.O.SeqObject.after g.O.State.PartialEq.eq g.O.Reply.PartialEq.eq c.args.problem.now) w.lift.new.self c.loop-call.entries _ _ w.lift.ensures (let h = c.requires in let n = c.loop-call-test.true in let e = c.len-call-end.ensures in omega (arith, h, n, e)) (sym c.has.ensures ∙ w.if-has.true) c.loop-call.invariant.filled);
  }
  | else-has w ↦ record {
    problem = rw w.entries-is c.loop-call.invariant.problem;
    filled = rw w.entries-is (filled_skip _ _ _ (sym c.has.ensures ∙ w.if-has.false) c.loop-call.invariant.filled);
  }
]

pub returns-clause-lifted : goal.returns-clause-lifted
returns-clause-lifted g c =
    filled_all _ _ c.loop-call.call (let h = c.requires in let n = c.loop-call-test.false in let m = c.loop-call.auto.call-end in let e = c.len-call-end.ensures in omega (arith, h, n, m, e)) c.loop-call.invariant.filled
