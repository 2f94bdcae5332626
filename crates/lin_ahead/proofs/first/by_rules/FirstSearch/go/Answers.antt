use Rattle.std.proofs.Common.{arith, inl}
use Rattle.lin_ahead.proofs.first.FirstLemmas.{first_more}
use Rattle.lin_ahead.proofs.first.by_rules.FirstSearch.go.Goals as goal

pub returns-in-Continue-3-clause-nothing : goal.returns-in-Continue-3-clause-nothing
returns-in-Continue-3-clause-nothing g c =
    let few = c.loop-self-test.false in
    let same = c.lift_next-2.ensures.lifts in
    inl (rw c.loop-self.invariant.problem at (first_more _ _ _ _ _ _ (c.in_ok-_frame.ensures.lifted _ c.in-Continue-3.is) c.args.lifts (omega (arith, few, same))))

pub returns-in-Break-2-clause-stop : goal.returns-in-Break-2-clause-stop
returns-in-Break-2-clause-stop g c = g.met.S.Stop.chained _ _ _ c.loop-self.invariant.stop c.lift_next.ensures.stop

pub returns-in-Continue-3-clause-stop : goal.returns-in-Continue-3-clause-stop
returns-in-Continue-3-clause-stop g c = g.met.S.Stop.chained _ _ _ c.loop-self.invariant.stop c.lift_next-2.ensures.stop

pub returns-in-Break-3-clause-stop : goal.returns-in-Break-3-clause-stop
returns-in-Break-3-clause-stop g c = g.met.S.Stop.chained _ _ _ c.loop-self.invariant.stop c.lift_next-2.ensures.stop

pub returns-in-Continue-3-clause-refuted : goal.returns-in-Continue-3-clause-refuted
returns-in-Continue-3-clause-refuted g c =
    rw c.loop-self.invariant.problem at (c.in_ok-_frame.ensures.lifted _ c.in-Continue-3.is).progress.refuted
