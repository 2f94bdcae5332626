use Rattle.std.proofs.Common.{arith, inr}
use Rattle.lin_history.specs.Problems.Problem.{problem_of}
use Rattle.lin_prefixes.proofs.BeatenLemmas.{beaten_itself}
use Rattle.lin_prefixes.proofs.LackLemmas.{lacking_none}
use Rattle.lin_prefixes.proofs.SplitLemmas.{tried_enough}
use Rattle.lin_prefixes.proofs.by_prefixes.try_longest.Goals as goal

pub returns-then-is_empty-clause-better : goal.returns-then-is_empty-clause-better
returns-then-is_empty-clause-better g c = beaten_itself c.args.best.now

pub returns-clause-known : goal.returns-clause-known
returns-clause-known g c =
    let p = problem_of g.O.SeqObject.after g.O.State.PartialEq.eq g.O.Reply.PartialEq.eq c.args.problem.now in
    λ yes r w. tried_enough p c.args.cut.call c.args.cut.spared.now c.args.cut.others.now c.try_part.new.best c.requires.split 1
    (λ n less l k. c.in_ok-try_part.ensures.known c.if-not-branch.false l (lacking_none p c.args.cut.call c.args.cut.spared.now c.args.cut.others.now n l (omega (arith, less)) k))
    (inr (let a = c.may_be_best.ensures c.if-may_be_best.false in omega (arith, a))) r w
