use Rattle.std.proofs.Common.{ℕ, subst, arith, inl, inr}
use Rattle.lin_history.specs.Problems.Problem.{problem_of}
use Rattle.lin_prefixes.specs.Prefixes.{IsRunLacking}
use Rattle.lin_prefixes.proofs.BeatenLemmas.{beaten_itself, beaten_chain}
use Rattle.lin_prefixes.proofs.OneMoreLemmas.{one_more}
use Rattle.lin_prefixes.proofs.SplitLemmas.{tried_enough}
use Rattle.lin_parts.specs.ListLemmas.{last_or}
use Rattle.lin_prefixes.proofs.by_prefixes.try_levels.Goals as goal

pub loop-lacking-init : goal.loop-lacking-init
loop-lacking-init g c = record {
  run = c.requires.run;
  better = beaten_itself c.args.best.now;
  conflicts = c.requires.conflicts;
  tried = λ d h r w. absurd (omega (arith, h));
}

pub returns-then-not-may_be_best-clause-known : goal.returns-then-not-may_be_best-clause-known
returns-then-not-may_be_best-clause-known g c =
    λ yes r w. tried_enough (problem_of g.O.SeqObject.after g.O.State.PartialEq.eq g.O.Reply.PartialEq.eq c.args.problem.now) c.args.cut.call c.args.cut.spared.now c.args.cut.others.now c.loop-lacking.best c.requires.split c.loop-lacking.lacking c.loop-lacking.invariant.tried (inr (c.may_be_best.ensures c.if-not-may_be_best.true)) r w

pub returns-then-not-branch-clause-better : goal.returns-then-not-branch-clause-better
returns-then-not-branch-clause-better g c = beaten_chain c.try_open.new.best c.loop-lacking.best c.args.best.now c.in_ok-try_open.ensures.better c.loop-lacking.invariant.better

pub loop-lacking-preserved : goal.loop-lacking-preserved
loop-lacking-preserved g c = record {
  run = c.try_open.ensures.run;
  better = beaten_chain c.try_open.new.best c.loop-lacking.best c.args.best.now c.in_ok-try_open.ensures.better c.loop-lacking.invariant.better;
  conflicts = c.in_ok-try_open.ensures.conflicts;
  tried = λ d h r w. elim (last_or d c.loop-lacking.lacking h) [
    | inl less ↦ beaten_chain c.try_open.new.best c.loop-lacking.best r c.in_ok-try_open.ensures.better (c.loop-lacking.invariant.tried d less r w)
    | inr same ↦ (
        let p = problem_of g.O.SeqObject.after g.O.State.PartialEq.eq g.O.Reply.PartialEq.eq c.args.problem.now in
        let lacks = subst (λ (x : ℕ). IsRunLacking p c.args.cut.call c.args.cut.spared.now c.args.cut.others.now x r) same w in
        c.in_ok-try_open.ensures.known c.if-not-branch.false r lacks
        (one_more p c.args.cut.call c.args.cut.spared.now c.args.cut.others.now c.loop-lacking.best c.loop-lacking.lacking c.requires.split c.loop-lacking.invariant.tried r lacks)
        )
  ];
}

pub returns-clause-known : goal.returns-clause-known
returns-clause-known g c =
    λ yes r w. tried_enough (problem_of g.O.SeqObject.after g.O.State.PartialEq.eq g.O.Reply.PartialEq.eq c.args.problem.now) c.args.cut.call c.args.cut.spared.now c.args.cut.others.now c.loop-lacking.best c.requires.split c.loop-lacking.lacking c.loop-lacking.invariant.tried (inl (let a = c.loop-lacking-test.false in omega (arith, a))) r w
