use Rattle.std.proofs.Common.{Some}
use Rattle.lin_history.specs.Problems.Problem.{problem_of}
use Rattle.lin_search.specs.AlikeLemmas.{alike_answer}
use Rattle.lin_search.specs.SameLemmas.{alike_itself}
use Rattle.lin_search.proofs.ToldLemmas.{told_right, told_unless}
use Rattle.lin_search.proofs.own_search.search_for_order.Goals as goal

pub returns-clause-told : goal.returns-clause-told
returns-clause-told g c =
    rw c.told_by.ensures (told_right (problem_of g.O.SeqObject.after g.O.State.PartialEq.eq g.O.Reply.PartialEq.eq c.args.problem.now) c.args.lifts _ c.in_ok-outcome.outcome
    (alike_answer (alike_itself c.lawful.ensures c.args.problem.now) _ c.in_ok-root.root.state c.args.problem.now.start (Some c.args.lifts) _ c.in_ok-root.ensures.state c.in_ok-outcome.outcome (rw c.in_ok-root.ensures.lifted at c.in_ok-outcome.ensures.answer)))

pub returns-clause-nothing : goal.returns-clause-nothing
returns-clause-nothing g c =
    rw c.told_by.ensures (told_unless (problem_of g.O.SeqObject.after g.O.State.PartialEq.eq g.O.Reply.PartialEq.eq c.args.problem.now) c.args.lifts _ c.in_ok-outcome.outcome
    (alike_answer (alike_itself c.lawful.ensures c.args.problem.now) _ c.in_ok-root.root.state c.args.problem.now.start (Some c.args.lifts) _ c.in_ok-root.ensures.state c.in_ok-outcome.outcome (rw c.in_ok-root.ensures.lifted at c.in_ok-outcome.ensures.answer)))
