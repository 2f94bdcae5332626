use Rattle.std.proofs.Common.{sym, ◌∙◌}
use Rattle.lin_history.specs.Problems.Problem.{problem_of}
use Rattle.lin_search.specs.SameLemmas.{alike_itself}
use Rattle.lin_fewer.proofs.FrontLemmas.{minimal_by}
use Rattle.lin_fewer.proofs.NodeLemmas.{none_identical, none_not_next}
use Rattle.lin_fewer.proofs.LeastLemmas.{verdict_by}
use Rattle.lin_fewer.proofs.least.begins.Goals as goal

pub returns-then-has_earlier-clause-verdict : goal.returns-then-has_earlier-clause-verdict
returns-then-has_earlier-clause-verdict g c = none_identical (problem_of g.O.SeqObject.after g.O.State.PartialEq.eq g.O.Reply.PartialEq.eq c.args.search.now) (alike_itself c.lawful.ensures c.args.search.now) c.args.asked.now.config.now.lifted c.args.asked.now.config.now.state c.args.call (rw c.lifted.ensures at (c.has_earlier.ensures c.if-has_earlier.true)) c.requires.least

pub child_of-requires-clause-minimal : goal.child_of-requires-clause-minimal
child_of-requires-clause-minimal g c = rw c.problem-problem.ensures (minimal_by (problem_of g.O.SeqObject.after g.O.State.PartialEq.eq g.O.Reply.PartialEq.eq c.args.search.now) c.args.asked.now.config.now.lifted c.args.asked.now.bound c.args.call c.requires.bound c.requires.called c.requires.call (sym c.has.ensures ∙ c.if-has.false))

pub returns-in_default-clause-verdict : goal.returns-in_default-clause-verdict
returns-in_default-clause-verdict g c = none_not_next (problem_of g.O.SeqObject.after g.O.State.PartialEq.eq g.O.Reply.PartialEq.eq c.args.search.now) c.args.asked.now.config.now c.args.call c.requires.reachable.flags (rw c.problem-problem.ensures at (rw c.in_default.is at c.in_ok-child.ensures.none))

pub returns-clause-verdict : goal.returns-clause-verdict
returns-clause-verdict g c = verdict_by (problem_of g.O.SeqObject.after g.O.State.PartialEq.eq g.O.Reply.PartialEq.eq c.args.search.now) c.args.asked.now.config.now c.args.call c.requires.reachable.flags c.in-Some.child (rw c.problem-problem.ensures at (rw c.in-Some.is at c.in_ok-child.ensures.some)) c.in_ok-verdict.verdict c.in_ok-verdict.ensures.verdict
