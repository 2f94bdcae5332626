use Rattle.lin_history.specs.Problems.AnyProblem.{any_problem}
use Rattle.lincheck.proofs.findings.look_for_order.Goals as goal

pub returns-then-branch : goal.returns-then-branch
returns-then-branch g c = c.refute.ensures (any_problem c.args.problem.now) (c.in_ok-is_refuted_with_any_adds.ensures c.if-branch.true) c.requires
