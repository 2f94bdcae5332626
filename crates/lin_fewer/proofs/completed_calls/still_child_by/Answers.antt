use Rattle.std.proofs.Common.{sym, ◌∙◌}
use Rattle.lin_history.specs.Problems.Problem.{problem_of}
use Rattle.lin_fewer.proofs.FrontLemmas.{minimal_by}
use Rattle.lin_fewer.proofs.completed_calls.still_child_by.Goals as goal

pub child_of-requires-clause-minimal : goal.child_of-requires-clause-minimal
child_of-requires-clause-minimal g c = rw (c.problem-problem.ensures, c.config-config.ensures) (minimal_by (problem_of g.O.SeqObject.after g.O.State.PartialEq.eq g.O.Reply.PartialEq.eq c.args.search.now) c.args.node.now.config.lifted c.args.bound c.args.call c.requires.bound c.requires.called c.requires.call (rw c.config-config.ensures at (sym c.has.ensures ∙ c.if-has.false)))
